-- The queues of one sender, by rising receiver.
use Rattle.std.proofs.Common.{◌≡◌, ◌≢◌, ℕ, zero, suc, ◌+◌, ◌<◌, ◌≤◌, List, [], ◌∷◌, length, get_or, Ok, Err, refl, sym, ap, ◌∙◌, arith, nat_cmp, inl, inr}
use Rattle.std.specs.Prelude.{slice_index_or, slice_set}
use Rattle.std.specs.List.{insert}
use Rattle.std.specs.List.Sorted.{IsSearchInRange, IsBinarySearchResult, IsNonDecreasingBy}
use Rattle.std.specs.Ordering.{ordering_index}
use Rattle.std.proofs.lemmas.Cmp.{ranked}
use Rattle.std.proofs.lemmas.List.{get_or_default}
use Rattle.std.proofs.lemmas.List.Sorted.{IsNonDecreasingBy-from_default}
use Rattle.std.proofs.lemmas.Bool.{cases_eq}
use Rattle.std.proofs.lemmas.Bool.Decides.{nat_tests}
use Rattle.bx_signals.specs.declared.signal.Signal.{Signal}
use Rattle.bx_signals.specs.Rows.{Row, queue_in, to_at, IsRising, IsPlaceOf, IsGapOf, Replaced, SameRow, Covers}

pub rising_none : IsRising {S = Signal} []
rising_none j k lt here = absurd (omega (arith, here))

module _ {S : Type 0} where
  -- no line before that one has the receiver
  abbrev NoneBefore : Row S → ℕ → ℕ → Type 0
  NoneBefore row q k = (j : ℕ) → j < k → to_at row j ≢ q

  none_behind : (line : ℕ × List S) (row : Row S) (q k : ℕ) → NoneBefore (line ∷ row) q (suc k) → NoneBefore row q k
  none_behind line row q k none j lt = none (suc j) (omega arith)

  absent : (row : Row S) (q : ℕ) → NoneBefore row q (length row) → queue_in row q ≡ []
  absent [] q none = refl
  absent (line ∷ row) q none = grind (arith, nat_tests, none 0, absent row q (none_behind line row q (length row) none))

  present : (row : Row S) (q k : ℕ) → k < length row → to_at row k ≡ q → NoneBefore row q k → queue_in row q ≡ (get_or row k (0, [])).1
  present [] q k here is none = absurd (omega (arith, here))
  present (line ∷ row) q zero here is none = grind (arith, nat_tests)
  present (line ∷ row) q (suc k) here is none = grind (arith, nat_tests, none 0, present row q k (omega (arith, here)) is (none_behind line row q k none))

  before_place : (row : Row S) (q at : ℕ) → IsRising row → IsPlaceOf row q at → NoneBefore row q at
  before_place row q at rising place j lt equal = omega (arith, rising j at lt place.0, place.1, equal)

  nowhere : (row : Row S) (q at : ℕ) → IsGapOf row q at → NoneBefore row q (length row)
  nowhere row q at gap j lt equal = grind (arith, gap.1 j, gap.2 j)

  -- the queue at its place
  pub queue_is : (row : Row S) (q at : ℕ) (line : ℕ × List S) → IsRising row → IsPlaceOf row q at → line ≡ get_or row at line → queue_in row q ≡ line.1
  queue_is row q at line rising place is =
      present row q at place.0 place.1 (before_place row q at rising place) ∙ ap (λ (l : ℕ × List S). l.1) (get_or_default row at (0, []) line place.0 ∙ sym is)

  pub queue_missed : (row : Row S) (q at : ℕ) → IsGapOf row q at → queue_in row q ≡ []
  queue_missed row q at gap = absent row q (nowhere row q at gap)

  -- searching
  comparisons_rise : (row : Row S) (q : ℕ) → IsRising row → IsNonDecreasingBy (λ line. ordering_index (nat_cmp line.0 q)) row
  comparisons_rise row q rising = IsNonDecreasingBy-from_default (λ line. ordering_index (nat_cmp line.0 q)) row (0, []) (λ i j le within.
      let pids_rise : to_at row i ≤ to_at row j = grind (arith, rising i j, λ (same : i ≡ j). ap (to_at row) same) in
      grind (arith, nat_tests))

  pub found_by_search : (row : Row S) (q at : ℕ) → IsSearchInRange (Ok at) (length row) → IsBinarySearchResult (λ line. nat_cmp line.0 q) row (Ok at) → IsPlaceOf row q at
  found_by_search row q at within equal = (within, ranked _ q _ (sym (equal (0, []))))

  pub missed_by_search : (row : Row S) (q at : ℕ) → IsRising row → IsSearchInRange (Err at) (length row) → IsBinarySearchResult (λ line. nat_cmp line.0 q) row (Err at) → IsGapOf row q at
  missed_by_search row q at rising within parted =
      let sides = parted (comparisons_rise row q rising) in
      (within, λ j lt. ranked _ q _ (sym (sides.0 j (0, []) (omega arith) lt)), λ j le lt. ranked _ q _ (sym (sides.1 j (0, []) le lt)))

  -- a line is put into the gap
  inserted : (row : Row S) (q at : ℕ) (ss : List S) → at ≤ length row → NoneBefore row q (length row) → Replaced row (insert row at (q, ss)) q ss
  inserted row q zero ss here none k = refl
  inserted [] q (suc at) ss here none k = absurd (omega (arith, here))
  inserted (line ∷ row) q (suc at) ss here none k = grind (arith, nat_tests, none 0, inserted row q at ss (omega (arith, here)) (none_behind line row q (length row) none) k)

  pub opened_same : (row : Row S) (q at : ℕ) → IsGapOf row q at → SameRow row (insert row at (q, []))
  opened_same row q at gap k = let new = inserted row q at [] gap.0 (nowhere row q at gap) k in let empty = queue_missed row q at gap in grind (arith, nat_tests)

  replaced : (row : Row S) (q at : ℕ) (new : ℕ × List S) → at < length row → to_at row at ≡ q → new.0 ≡ q → NoneBefore row q at → Replaced row (slice_set row at new) q new.1
  replaced [] q at new here is same none k = absurd (omega (arith, here))
  replaced (line ∷ row) q zero new here is same none k = grind (arith, nat_tests)
  replaced (line ∷ row) q (suc at) new here is same none k = grind (arith, nat_tests, none 0, replaced row q at new (omega (arith, here)) is same (none_behind line row q at none) k)

  pub set_by : (row : Row S) (q at : ℕ) (old new : ℕ × List S) (f : List S → List S) → IsRising row → IsPlaceOf row q at → old ≡ get_or row at old → new.0 ≡ old.0 → new.1 ≡ f old.1 → Replaced row (slice_set row at new) q (f (queue_in row q))
  set_by row q at old new f rising place is same queue =
      let pid : old.0 ≡ q = ap (λ (l : ℕ × List S). l.0) (is ∙ get_or_default row at old (0, []) place.0) ∙ place.1 in
      rw (queue_is row q at old rising place is, ← queue) (replaced row q at new place.0 place.1 (same ∙ pid) (before_place row q at rising place))

  -- put there again, it changes nothing
  pub set_same : (row : Row S) (q at : ℕ) (old new : ℕ × List S) → IsRising row → IsPlaceOf row q at → old ≡ get_or row at old → new.0 ≡ old.0 → new.1 ≡ old.1 → SameRow row (slice_set row at new)
  set_same row q at old new rising place is same queue k = let new_is = set_by row q at old new (λ ss. ss) rising place is same queue k in grind (arith, nat_tests)

  -- where there is no queue, nothing waits, and nothing is taken
  pub unchanged : (row : Row S) (q at : ℕ) (f : List S → List S) → IsGapOf row q at → f [] ≡ [] → Replaced row row q (f (queue_in row q))
  unchanged row q at f gap none k = let empty = queue_missed row q at gap in rw empty (grind (arith, nat_tests))

  -- what waits at one place waits in another row too
  abbrev pub Held : Row S → Row S → ℕ → Type 0
  Held row other k = let line = slice_index_or row k (0, []) in (line.1 ≢ [] → queue_in other line.0 ≡ line.1)

  abbrev pub HeldBefore : Row S → Row S → ℕ → Type 0
  HeldBefore row other n = (k : ℕ) → k < n → Held row other k

  somewhere : (row : Row S) (q : ℕ) → queue_in row q ≢ [] → (k : ℕ) × (k < length row) × (to_at row k ≡ q)
  somewhere [] q some = absurd (some refl)
  somewhere (line ∷ row) q some = elim (cases_eq q line.0) [
    | inl e ↦ (0, omega arith, sym e)
    | inr other ↦ let behind = somewhere row q (λ none. some (grind (arith, nat_tests))) in (suc behind.0, omega (arith, behind.1), behind.2)
  ]

  at_place : (row : Row S) (k : ℕ) → IsRising row → k < length row → queue_in row (to_at row k) ≡ (get_or row k (0, [])).1
  at_place row k rising here = present row (to_at row k) k here refl (before_place row (to_at row k) k rising (here, refl))

  pub covers_when : (row other : Row S) (n : ℕ) → IsRising row → length row ≤ n → HeldBefore row other n → Covers row other
  covers_when row other n rising all held q some =
      let found = somewhere row q some in
      let own = ap (queue_in row) (sym found.2) ∙ at_place row found.0 rising found.1 in
      ap (queue_in other) (sym found.2) ∙ held found.0 (omega (arith, found.1)) (λ none. some (own ∙ none)) ∙ sym own

  pub held_further : (row other : Row S) (at : ℕ) (line : ℕ × List S) → at < length row → line ≡ get_or row at line → HeldBefore row other at
      → (line.1 ≢ [] → queue_in other line.0 ≡ line.1) → HeldBefore row other (at + 1)
  held_further row other at line here is held one k lt = elim (cases_eq k at) [
    | inl same ↦ rw (same, ← (is ∙ get_or_default row at line (0, []) here)) one
    | inr apart ↦ held k (omega arith)
  ]

  pub not_held : (row other : Row S) (at : ℕ) (line : ℕ × List S) → IsRising row → at < length row → line ≡ get_or row at line → Covers row other
      → line.1 ≢ [] → queue_in other line.0 ≡ line.1
  not_held row other at line rising here is covers =
      let own = at_place row at rising here in
      rw (is ∙ get_or_default row at line (0, []) here) (λ some. covers (to_at row at) (λ none. some (sym own ∙ none)) ∙ own)
