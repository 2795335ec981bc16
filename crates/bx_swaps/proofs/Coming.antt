-- A choice that comes forward, one exchange after another.
use Rattle.bx_swaps.proofs.Words.{◌≡◌, ◌∙◌, ℕ, zero, suc, ◌+◌, ◌-◌, ◌<◌, ◌≤◌, Bool, true, false, List, length, inl, refl, sym, ap, subst, arith, if◌then◌else◌, Choice, Run, Course, with_exchange, MayExchange}
use Rattle.bx_swaps.proofs.Words.{brought, Brings, IsExchanged, among_more, further, none_made, may_exchange, forward}
use Rattle.std.proofs.Common.{inr}
use Rattle.std.proofs.lemmas.Bool.{false_from_ne_true, cases_lt}
use Rattle.bx_replay.proofs.Bringing.{brought_here, brought_on, one_made}
use Rattle.bx_swaps.proofs.Ends.{exchanged_is}
use Rattle.bx_swaps.proofs.Telling.{may_so, so_may}

abbrev on_if : ℕ → ℕ → Course → Bool → ℕ × Course
on_if most at c may = if may then forward most (at - 1) (with_exchange (at - 1) c) else (at, c)

module _ (from to : ℕ) (old new : Course) (at : ℕ) (within : from < length old.choices) (b : Brings from to old new at) where
  -- the row, where it stands at i
  abbrev stood : ℕ → Course
  stood i = record old { choices = brought from i old.choices }

  new_is : new ≡ stood at
  new_is = exchanged_is (from + 1) old new b.exchanges ∙ ap (λ (cs : List Choice). record old { choices = cs }) b.choices

  passes : (j : ℕ) → at < j → j ≤ from → may_exchange (j - 1) (stood j) ≡ true
  passes j less le =
      let up : j - 1 + 1 ≡ j = omega (arith, less) in
      so_may (j - 1) (stood j) (subst (λ n. MayExchange (j - 1) (stood n)) up (b.steps (j - 1) (omega (arith, less)) (omega (arith, less, le))))

  moved : (j : ℕ) → at < j → j ≤ from → with_exchange (j - 1) (stood j) ≡ stood (j - 1)
  moved j less le =
      let up : j - 1 + 1 ≡ j = omega (arith, less) in
      subst (λ n. with_exchange (j - 1) (stood n) ≡ stood (j - 1)) up
      (ap (λ (cs : List Choice). record old { choices = cs }) (brought_on old.choices from (Run 0) within (j - 1) (omega (arith, less, le))))

  stays : to < at → may_exchange (at - 1) (stood at) ≡ false
  stays less = false_from_ne_true (may_exchange (at - 1) (stood at)) (λ e. b.stuck less (subst (λ (c : Course). MayExchange (at - 1) c) (sym new_is) (may_so (at - 1) (stood at) e)))

  on : (n j : ℕ) → j ≡ to + n → at ≤ j → j ≤ from → forward n j (stood j) ≡ (at, stood at)
  on zero j is low high =
      let reach = b.reach in
      let here : j ≡ at = omega (arith, is, low, reach) in
      ap (λ i. (i, stood i)) here
  on (suc n) j is low high = elim (cases_lt at j) [
    | inl less ↦
        ap (on_if n j (stood j)) (passes j less high) ∙ ap (forward n (j - 1)) (moved j less high)
        ∙ on n (j - 1) (omega (arith, is)) (omega (arith, less)) (omega (arith, high))
    | inr past ↦
        let here : j ≡ at = omega (arith, low, past) in
        let less : to < at = omega (arith, is, here) in
        ap (λ i. on_if n i (stood i) (may_exchange (i - 1) (stood i))) here ∙ ap (on_if n at (stood at)) (stays less)
  ]

  pub brings_so : to ≤ from → forward (from - to) from old ≡ (at, new)
  brings_so order =
      let start = b.start in
      let count : from ≡ to + (from - to) = omega (arith, order) in
      ap (λ (cs : List Choice). forward (from - to) from (record old { choices = cs })) (sym (brought_here old.choices from (Run 0) within))
      ∙ on (from - to) from count start (omega arith) ∙ ap (λ (c : Course). (at, c)) (sym new_is)

-- where it comes to, and by what
pub record Comes (most at : ℕ) (old : Course) (came : ℕ × Course) : Type 0 where
  pub low : at - most ≤ came.0
  pub high : came.0 ≤ at
  pub exchanged : IsExchanged (at + 1) old came.1

comes_if : (n at : ℕ) (c : Course) (may : Bool) → suc n ≤ at → may_exchange (at - 1) c ≡ may → Comes n (at - 1) (with_exchange (at - 1) c) (forward n (at - 1) (with_exchange (at - 1) c)) → Comes (suc n) at c (on_if n at c may)
comes_if n at c false le is rest = record { low = omega arith; high = omega arith; exchanged = none_made (at + 1) c }
comes_if n at c true le is rest =
    let next = with_exchange (at - 1) c in
    let low = rest.low in
    let high = rest.high in
    record {
      low = omega (arith, low, le);
      high = omega (arith, high);
      exchanged = further (at + 1) c next (forward n (at - 1) next).1 (one_made (at + 1) (at - 1) c (omega (arith, le)) (may_so (at - 1) c is))
          (among_more (at - 1 + 1) (at + 1) next (forward n (at - 1) next).1 (omega (arith, le)) rest.exchanged);
    }

pub comes : (n at : ℕ) (c : Course) → n ≤ at → Comes n at c (forward n at c)
comes zero at c le = record { low = omega arith; high = omega arith; exchanged = none_made (at + 1) c }
comes (suc n) at c le = comes_if n at c (may_exchange (at - 1) c) le refl (comes n (at - 1) (with_exchange (at - 1) c) (omega arith))
