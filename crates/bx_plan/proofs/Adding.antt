-- One schedule more in a plan that is read.
use Rattle.bx_plan.proofs.Words.{cases_Bool, cond_both, take-append-le, Updates, with_loose, Overfull, with_schedule, ◌≡◌, ◌⊎◌, inl, inr, ℕ, ◌+◌, ◌-◌, ◌^◌, ◌<◌, ◌≤◌, min, Bool, true, false, cond, List, [], ◌∷◌, ◌++◌, Option, None, Some}
use Rattle.bx_plan.proofs.Words.{Result, Ok, Err, length, get_or, take, refl, sym, ap, subst, ◌∙◌, arith, length-append, Bor, get_or-append, get_or-append_seam, length-map, map-append, take_all}
use Rattle.bx_plan.proofs.Words.{same_from_decides, list_any-append, bytes_eq-Decides, nat_lt, BTreeSet, contains, both_ways, cases_lt, lt-ltb, le-ltb, ltb-true, ltb-false, ◌>>=◌, Fault, TooLong, read_loose, text_cmp, Stands, Entry}
use Rattle.bx_plan.proofs.Words.{count_of, spread, Line, Named, choices_of, has_name, named, with_lines, with_read, TakesFirst, lines_view, node_count}
use Rattle.std.proofs.lemmas.Map.Text.{is_eq-slice_cmp}
use Rattle.bx_plan.proofs.Counting.{no_more}
use Rattle.bx_plan.proofs.Counts.{length_spread}

-- the test on the count is one on the length
module _ (entries : List Entry) (count : ℕ) (counted : count ≡ min (count_of entries) (2 ^ 64 - 1)) where
  pub is_long : 100000 < count → 100000 < length (spread entries)
  is_long h = omega (arith, length_spread entries)

  pub is_short : count ≤ 100000 → length (spread entries) ≤ 100000
  is_short h = omega (arith, length_spread entries)

-- ---- names

-- the names, with one more
pub knows_more : (plan after : List Named) (schedule : Named) (names more : BTreeSet (Bor (List ℕ))) (key : Bor (List ℕ))
    → ((name : Bor (List ℕ)) → contains text_cmp names name ≡ has_name name.now plan)
    → Updates text_cmp names more key true
    → schedule.0 ≡ key.now
    → after ≡ plan ++ schedule ∷ []
    → (name : Bor (List ℕ)) → contains text_cmp more name ≡ has_name name.now after
knows_more plan after schedule names more key knows updates same is_after name = grind (arith, is_eq-slice_cmp, bytes_eq-Decides, same_from_decides, list_any-append)

-- ---- one schedule more, by the tests

module _ (n : ℕ) (plan : List Named) (schedule : Named) where
  pub loose_long : has_name schedule.0 plan ≡ false → 100000 < length schedule.1 → with_loose n plan schedule ≡ Err (TooLong n)
  loose_long p q = rw (p, lt-ltb 100000 (length schedule.1) q) refl

  pub loose_added : has_name schedule.0 plan ≡ false → length schedule.1 ≤ 100000 → with_loose n plan schedule ≡ Ok (plan ++ schedule ∷ [])
  loose_added p q = rw (p, le-ltb 100000 (length schedule.1) q) refl

  -- refused in both ways, or added where there are not too many prefixes
  abbrev Loose : Result (List Named) Fault → Type 0
  Loose said =
      ((fault : Fault) × (said ≡ Err fault) × (with_schedule n plan schedule ≡ Err fault))
      ⊎ ((said ≡ Ok (plan ++ schedule ∷ [])) × (with_schedule n plan schedule ≡ cond (nat_lt 1000000 (node_count (choices_of (plan ++ schedule ∷ [])))) (Err (TooLong n)) (Ok (plan ++ schedule ∷ []))))

  pub loose : Loose (with_loose n plan schedule)
  loose = grind (arith, cases_Bool)

-- what is refused in the one way is in the other
pub read_fault : (n : ℕ) (plan : List Named) (read : Option (Option (List ℕ × List Entry))) (fault : Fault) → read_loose n plan read ≡ Err fault → with_read n plan read ≡ Err fault
read_fault n plan None fault h = h
read_fault n plan (Some None) fault h = cc
read_fault n plan (Some (Some line)) fault h = one (loose n plan (named line)) where
  one : Loose n plan (named line) (with_loose n plan (named line)) → with_schedule n plan (named line) ≡ Err fault
  one (inl (first, loosely, strictly)) = strictly ∙ (sym loosely ∙ h)
  one (inr (loosely, strictly)) = let clash : Ok (plan ++ named line ∷ []) ≡ Err fault = sym loosely ∙ h in cc

-- ---- whether there are too many prefixes so far

-- too many with one of the schedules stay too many
overfull_more : (plan more : List Named) (numbers others : List ℕ) (answer : Result (List Named) Fault) → length numbers ≡ length plan → Overfull plan numbers answer → Overfull (plan ++ more) (numbers ++ others) answer
overfull_more plan more numbers others answer long (i, h, fits, full, is) = (
  i,
  omega (arith, h, length-append plan more),
  subst (λ ss. node_count ss ≤ 1000000) (sym (front i (omega (arith, h)))) fits,
  subst (λ ss. 1000000 < node_count ss) (sym (front (i + 1) (omega (arith, h)))) full,
  is ∙ ap (λ m. Err (TooLong m)) (sym (get_or-append numbers others 0 i (omega (arith, h, long)))),
) where
  front : (k : ℕ) → k ≤ length plan → take k (choices_of (plan ++ more)) ≡ take k (choices_of plan)
  front k l = ap (take k) (map-append (λ (s : Named). s.1) plan more) ∙ take-append-le k (choices_of plan) (choices_of more) (omega (arith, l, length-map plan (λ (s : Named). s.1)))

front_is : (plan : List Named) (schedule : Named) → take (length plan) (choices_of (plan ++ schedule ∷ [])) ≡ choices_of plan
front_is plan schedule = grind (arith, length-map, map-append, take-append-le, take_all)

-- a schedule was added, and there may be too many prefixes with it
stands_more : (n : ℕ) (plan : List Named) (schedule : Named) (numbers : List ℕ) (lines : List (List ℕ)) (answer : Result (List Named) Fault) (full : Bool)
    → length numbers ≡ length plan → nat_lt 1000000 (node_count (choices_of (plan ++ schedule ∷ []))) ≡ full
    → with_schedule n plan schedule ≡ cond full (Err (TooLong n)) (Ok (plan ++ schedule ∷ []))
    → Stands plan numbers (with_schedule n plan schedule >>= λ next. with_lines (n + 1) next lines) answer
    → Stands (plan ++ schedule ∷ []) (numbers ++ n ∷ []) (with_lines (n + 1) (plan ++ schedule ∷ []) lines) answer
stands_more n plan schedule numbers lines answer full long t strictly (inr over) = inr (overfull_more plan (schedule ∷ []) numbers (n ∷ []) answer long over)
stands_more n plan schedule numbers lines answer false long t strictly (inl (few, said)) = grind (arith, ltb-false)
stands_more n plan schedule numbers lines answer true long t strictly (inl (few, said)) = inr (
  length plan,
  omega (arith, length-append plan (schedule ∷ [])),
  subst (λ ss. node_count ss ≤ 1000000) (sym (front_is plan schedule)) few,
  subst (λ ss. 1000000 < node_count ss) (sym (take_all (length plan + 1) (choices_of (plan ++ schedule ∷ [])) (omega (arith, length-map (plan ++ schedule ∷ []) (λ (s : Named). s.1), length-append plan (schedule ∷ []))))) (ltb-true 1000000 (node_count (choices_of (plan ++ schedule ∷ []))) t),
  sym said ∙ ap (λ r. r >>= λ next. with_lines (n + 1) next lines) strictly ∙ ap (λ m. Err (TooLong m)) (sym (ap (λ i. get_or (numbers ++ n ∷ []) i 0) (sym long) ∙ get_or-append_seam numbers n [] 0)),
)

-- a line that is read in both ways
pub stands_read : (n : ℕ) (plan more : List Named) (numbers after : List ℕ) (lines : List (List ℕ)) (read : Option (Option (List ℕ × List Entry))) (answer : Result (List Named) Fault)
    → length numbers ≡ length plan → read_loose n plan read ≡ Ok more
    → (((after ≡ numbers) × (more ≡ plan)) ⊎ ((after ≡ numbers ++ n ∷ []) × (length more ≡ length plan + 1)))
    → Stands plan numbers (with_read n plan read >>= λ next. with_lines (n + 1) next lines) answer → Stands more after (with_lines (n + 1) more lines) answer
stands_read n plan more numbers after lines None answer long e noted stands = cc
stands_read n plan more numbers after lines (Some None) answer long e (inl (same, kept)) stands = grind (arith)
stands_read n plan more numbers after lines (Some None) answer long e (inr (same, longer)) stands = let kept : plan ≡ more = cc in absurd (omega (arith, longer, ap length kept))
stands_read n plan more numbers after lines (Some (Some line)) answer long e noted stands = one (loose n plan (named line)) noted where
  added : with_loose n plan (named line) ≡ Ok (plan ++ named line ∷ []) → more ≡ plan ++ named line ∷ []
  added loosely = let both : Ok more ≡ Ok (plan ++ named line ∷ []) = sym e ∙ loosely in cc

  one : Loose n plan (named line) (with_loose n plan (named line)) → ((after ≡ numbers) × (more ≡ plan)) ⊎ ((after ≡ numbers ++ n ∷ []) × (length more ≡ length plan + 1)) → Stands more after (with_lines (n + 1) more lines) answer
  one (inl (fault, loosely, strictly)) noted = let clash : Err fault ≡ Ok more = sym loosely ∙ e in cc
  one (inr (loosely, strictly)) (inl (same, kept)) = absurd (omega (arith, ap length kept, ap length (added loosely), length-append plan (named line ∷ [])))
  one (inr (loosely, strictly)) (inr (same, longer)) =
      subst (λ p. Stands p after (with_lines (n + 1) p lines) answer) (sym (added loosely)) (subst (λ ns. Stands (plan ++ named line ∷ []) ns (with_lines (n + 1) (plan ++ named line ∷ []) lines) answer) (sym same)
      (stands_more n plan (named line) numbers lines answer (nat_lt 1000000 (node_count (choices_of (plan ++ named line ∷ [])))) long refl strictly stands))

-- ---- the answer, where it is known whether there are too many prefixes

pub stands_few : (plan : List Named) (numbers : List ℕ) (said answer : Result (List Named) Fault) → node_count (choices_of plan) ≤ 1000000 → Stands plan numbers said answer → said ≡ answer
stands_few plan numbers said answer few (inl (_, is)) = is
stands_few plan numbers said answer few (inr (i, h, fits, full, is)) =
    let all = no_more (choices_of plan) (i + 1) (length plan) (omega (arith, h)) in
    absurd (omega (arith, few, full, all, ap node_count (take_all (length plan) (choices_of plan) (omega (arith, length-map plan (λ (s : Named). s.1))))))

pub stands_full : (plan : List Named) (numbers : List ℕ) (said answer : Result (List Named) Fault) (k : ℕ) → node_count (take k (choices_of plan)) ≤ 1000000 → 1000000 < node_count (take (k + 1) (choices_of plan))
    → k < length plan → Stands plan numbers said answer → answer ≡ Err (TooLong (get_or numbers k 0))
stands_full plan numbers said answer k fits full h (inl (few, is)) =
    let all = no_more (choices_of plan) (k + 1) (length plan) (omega (arith, h)) in
    absurd (omega (arith, few, full, all, ap node_count (take_all (length plan) (choices_of plan) (omega (arith, length-map plan (λ (s : Named). s.1))))))
stands_full plan numbers said answer k fits full h (inr (i, l, low, high, is)) = grind (arith, cases_lt, no_more)

-- ---- memory

pub takes_more : (n : ℕ) (plan more : List Named) (read : Option (Option (List ℕ × List Entry))) (later : Type 0) → read_loose n plan read ≡ Ok more → later → TakesFirst read later
takes_more n plan more read later h5 h6 = grind (arith, cond_both, ltb-false)

pub takes_added : (n : ℕ) (plan more : List Named) (read : Option (Option (List ℕ × List Entry))) (later : Type 0) → read_loose n plan read ≡ Ok more → length more ≡ length plan + 1 → TakesFirst read later
takes_added n plan more read later h5 h6 = grind (arith, cond_both, ltb-false)

-- the test on all schedules failed
pub few_all : (lines items : List Line) (n : ℕ) (b : Bool) → lines ≡ items → n ≡ length items → (1000000 < node_count (take n (choices_of (lines_view lines))) → b ≡ true) → b ≡ false → node_count (choices_of (lines_view items)) ≤ 1000000
few_all lines items n b e f told failed = grind (arith, take_all, length-map, both_ways, cases_lt)
