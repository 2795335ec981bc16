-- Numbers below a bound that pass a test.
use Rattle.std.proofs.Common.{◌≡◌, ◌≢◌, ◌⊎◌, inl, inr, ℕ, zero, suc, ◌+◌, ◌<◌, Bool, refl, sym, ap, arith}
use Rattle.std.proofs.lemmas.Bool.{cases_eq}
use Rattle.bx_plan.specs.Chains.{one_if}
use Rattle.bx_board.specs.Machine.{how_many}

-- tests that agree below the bound
pub how_many_same : (p q : ℕ → Bool) (bound : ℕ) → ((n : ℕ) → n < bound → p n ≡ q n) → how_many p bound ≡ how_many q bound
how_many_same p q zero same = refl
how_many_same p q (suc bound) same = omega (arith, how_many_same p q bound (λ n h. same n (omega (arith, h))), ap one_if (same bound (omega arith)))

-- tests that agree but at one number below it
pub how_many_but : (p q : ℕ → Bool) (bound at : ℕ) → at < bound → ((n : ℕ) → n ≢ at → p n ≡ q n) → how_many q bound + one_if (p at) ≡ how_many p bound + one_if (q at)
how_many_but p q zero at h same = absurd (omega (arith, h))
how_many_but p q (suc bound) at h same = one (cases_eq at bound) (λ less. how_many_but p q bound at less same) where
  one : (at ≡ bound) ⊎ (at ≢ bound) → (at < bound → how_many q bound + one_if (p at) ≡ how_many p bound + one_if (q at)) → how_many q (suc bound) + one_if (p at) ≡ how_many p (suc bound) + one_if (q at)
  one (inl e) later =
      let below = how_many_same p q bound (λ n less. same n (λ f. absurd (omega (arith, f, e, less)))) in
      omega (arith, below, ap (λ n. one_if (p n)) e, ap (λ n. one_if (q n)) e)
  one (inr e) later = omega (arith, later (omega (arith, h, e)), ap one_if (same bound (λ f. e (sym f))))
