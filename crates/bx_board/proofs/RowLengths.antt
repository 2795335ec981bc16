-- How many chains stand how, and rows of numbers without repetition.
use Rattle.std.proofs.Common.{◌≡◌, ◌⊎◌, inl, inr, ℕ, zero, suc, ◌+◌, ◌<◌, ◌≤◌, ◌==◌, cond, Bool, true, false, List, [], ◌∷◌, length, refl, sym, ap, ◌∙◌, arith}
use Rattle.std.proofs.lemmas.Bool.{eq-eqb}
use Rattle.std.proofs.lemmas.List.Sums.{sum_by-cons}
use Rattle.bx_plan.specs.Chains.{one_if, times}
use Rattle.bx_plan.proofs.Times.{not_eq, below_or_past}
use Rattle.bx_board.specs.Machine.{how_many}

-- how often the numbers below a bound stand in a row, in all
abbrev all_times : List ℕ → ℕ → ℕ
all_times xs zero = 0
all_times xs (suc n) = all_times xs n + times n xs

times_cons : (n x : ℕ) (xs : List ℕ) → times n (x ∷ xs) ≡ one_if (x == n) + times n xs
times_cons n x xs = sum_by-cons (λ y. cond (y == n) 1 0) x xs

times_none : (xs : List ℕ) (bound : ℕ) → xs ≡ [] → all_times xs bound ≡ 0
times_none xs zero e = refl
times_none xs (suc n) e = omega (arith, times_none xs n e, ap (times n) e)

past : (x : ℕ) (xs : List ℕ) (bound : ℕ) → bound ≤ x → all_times (x ∷ xs) bound ≡ all_times xs bound
past x xs zero h = refl
past x xs (suc n) h = omega (arith, past x xs n (omega (arith, h)), times_cons n x xs, ap one_if (not_eq x n (λ e. absurd (omega (arith, e, h)))))

one_more : (x : ℕ) (xs : List ℕ) (bound : ℕ) → x < bound → all_times (x ∷ xs) bound ≡ all_times xs bound + 1
one_more x xs zero h = absurd (omega (arith, h))
one_more x xs (suc n) h = one (below_or_past x n) (one_more x xs n) where
  one : (x < n) ⊎ (n ≤ x) → (x < n → all_times (x ∷ xs) n ≡ all_times xs n + 1) → all_times (x ∷ xs) (suc n) ≡ all_times xs (suc n) + 1
  one (inl l) later = omega (arith, later l, times_cons n x xs, ap one_if (not_eq x n (λ e. absurd (omega (arith, e, l)))))
  one (inr p) later = omega (arith, past x xs n p, times_cons n x xs, ap one_if (eq-eqb x n (omega (arith, p, h))))

-- all numbers of a row are below the bound
abbrev pub AllBelow : ℕ → List ℕ → Type 0
AllBelow bound [] = Unit {0}
AllBelow bound (x ∷ xs) = (x < bound) × AllBelow bound xs

length_is : (bound : ℕ) (xs : List ℕ) → AllBelow bound xs → length xs ≡ all_times xs bound
length_is bound [] h = sym (times_none [] bound refl)
length_is bound (x ∷ xs) h = omega (arith, one_more x xs bound h.0, length_is bound xs h.1)

-- a row in which a number past the bound stands never
pub all_below : (bound : ℕ) (xs : List ℕ) → ((n : ℕ) → bound ≤ n → times n xs ≡ 0) → AllBelow bound xs
all_below bound [] h = tt
all_below bound (x ∷ xs) h = (first (below_or_past x bound), all_below bound xs (λ n p. omega (arith, h n p, times_cons n x xs))) where
  first : (x < bound) ⊎ (bound ≤ x) → x < bound
  first (inl l) = l
  first (inr p) = absurd (omega (arith, h x p, times_cons x x xs, ap one_if (eq-eqb x x refl)))

times_many : (p : ℕ → Bool) (xs : List ℕ) (bound : ℕ) → ((n : ℕ) → times n xs ≡ one_if (p n)) → all_times xs bound ≡ how_many p bound
times_many p xs zero h = refl
times_many p xs (suc n) h = omega (arith, times_many p xs n h, h n)

-- a row that has each number that passes the test once, and no other, is as long as there are such numbers
pub length_many : (p : ℕ → Bool) (xs : List ℕ) (bound : ℕ) → ((n : ℕ) → times n xs ≡ one_if (p n)) → ((n : ℕ) → bound ≤ n → p n ≡ false) → length xs ≡ how_many p bound
length_many p xs bound h none = length_is bound xs (all_below bound xs (λ n past. h n ∙ ap one_if (none n past))) ∙ times_many p xs bound h

pub how_many_low : (p : ℕ → Bool) (bound : ℕ) → how_many p bound ≤ bound
how_many_low p zero = omega arith
how_many_low p (suc n) = omega (arith, how_many_low p n, low (p n)) where
  low : (b : Bool) → one_if b ≤ 1
  low true = omega arith
  low false = omega arith

-- and one less at least, where one below the bound doesn't pass
pub how_many_less : (p : ℕ → Bool) (bound at : ℕ) → at < bound → p at ≡ false → how_many p bound < bound
how_many_less p zero at h f = absurd (omega (arith, h))
how_many_less p (suc n) at h f = one (below_or_past at n) (how_many_less p n at) (how_many_low p n) (low (p n)) where
  low : (b : Bool) → one_if b ≤ 1
  low true = omega arith
  low false = omega arith

  one : (at < n) ⊎ (n ≤ at) → (at < n → p at ≡ false → how_many p n < n) → how_many p n ≤ n → one_if (p n) ≤ 1 → how_many p (suc n) < suc n
  one (inl l) later all last = omega (arith, later l f, last)
  one (inr g) later all last = let place : at ≡ n = omega (arith, g, h) in omega (arith, all, ap (λ i. one_if (p i)) place, ap one_if f)

-- one passes at least, where one below the bound does
pub how_many_some : (p : ℕ → Bool) (bound at : ℕ) → at < bound → p at ≡ true → 0 < how_many p bound
how_many_some p zero at h t = absurd (omega (arith, h))
how_many_some p (suc n) at h t = one (below_or_past at n) (how_many_some p n at) where
  one : (at < n) ⊎ (n ≤ at) → (at < n → p at ≡ true → 0 < how_many p n) → 0 < how_many p (suc n)
  one (inl l) later = omega (arith, later l t)
  one (inr g) later = let place : at ≡ n = omega (arith, g, h) in omega (arith, ap (λ i. one_if (p i)) place, ap one_if t)
