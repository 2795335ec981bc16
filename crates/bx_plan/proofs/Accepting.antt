-- A text is read where it is a plan's, and refused by its first fault.
use Rattle.bx_plan.proofs.Words.{◌≡◌, ◌≢◌, ◌⊎◌, inl, inr, ℕ, suc, ◌+◌, ◌<◌, List, [], ◌∷◌, ◌++◌, Option, Some, None, Result, Ok, Err, length, refl, sym, ap, ◌∙◌, arith, subst, append-nil, Decides-or, BadLine, Decides, nat_eq, ◌↔◌}
use Rattle.bx_plan.proofs.Words.{AllByRecursion, join_with_byte, length-slice_split, join_with_byte-slice_split, bytes_eq, ne_eqb, eqb-false, both_ways, cond_both, false_from_ne_true, bytes_eq-Decides, ◌>>=◌, Fault, NameTwice, TooLong}
use Rattle.bx_plan.proofs.Words.{Entry, line_of, parts_of, Named, named, has_name, is_too_long, with_read, with_lines, plan_of, IsNothing, IsSchedule}
use Rattle.bx_plan.proofs.Marks.{Lacks, parts_lacks, parts_at}
use Rattle.bx_plan.specs.Texts.{AreLines, HasName, IsTooLong, Leads, IsPlan, IsFault, IsFirstFault}
use Rattle.bx_plan.proofs.Headings.{nothing_spelled, nothing_again, line_spelled, line_again}

-- ---- the two tests

has_name_decides : (name : List ℕ) (plan : List Named) → Decides (has_name name plan) (HasName plan name)
has_name_decides name [] = (λ h. cc, λ h. absurd h)
has_name_decides name (schedule ∷ plan) = Decides-or (bytes_eq name schedule.0) (has_name name plan) (bytes_eq-Decides name schedule.0) (has_name_decides name plan)

too_long_decides : (plan : List Named) (schedule : Named) → Decides (is_too_long plan schedule) (IsTooLong plan schedule)
too_long_decides plan schedule = grind (arith)

-- ---- one line

-- what a line that is read makes of the plan
abbrev Reads : List Named → List ℕ → List Named → Type 0
Reads plan line more =
    (IsNothing line × (more ≡ plan))
    ⊎ ((read : List ℕ × List Entry) × IsSchedule line read × (HasName plan read.0 → ⊥) × (IsTooLong plan (named read) → ⊥) × (more ≡ plan ++ named read ∷ []))

abbrev Answer : Type 0
Answer = Result (List Named) Fault

abbrev LineSays : ℕ → List Named → List ℕ → Answer → Type 0
LineSays n plan line (Ok more) = Reads plan line more
LineSays n plan line (Err fault) = IsFault plan n line fault

module _ (n : ℕ) (plan : List Named) (line : List ℕ) where
  line_says : LineSays n plan line (with_read n plan (line_of line))
  line_says = one (line_of line) refl where
    one : (read : Option (Option (List ℕ × List Entry))) → line_of line ≡ read → LineSays n plan line (with_read n plan read)
    one None p = (refl, λ k. let q = nothing_again line k in cc, λ read k. let q = line_again line read k in cc)
    one (Some None) p = inl (nothing_spelled line p, refl)
    one (Some (Some read)) p = grind (arith, line_spelled, has_name_decides, too_long_decides, cond_both, both_ways)

  -- and what it says is read
  line_reads : (answer : Answer) → LineSays n plan line answer → with_read n plan (line_of line) ≡ answer
  line_reads (Ok more) (inl (k, e)) = ap (with_read n plan) (nothing_again line k) ∙ ap (λ p. Ok p) (sym e)
  line_reads (Ok more) (inr (read, k, fresh, short, e)) =
      let once = false_from_ne_true (has_name read.0 plan) (λ t. fresh ((has_name_decides read.0 plan).0 t)) in
      let fits = false_from_ne_true (is_too_long plan (named read)) (λ t. short ((too_long_decides plan (named read)).0 t)) in
      rw (line_again line read k) (rw (once, fits) (ap (λ p. Ok p) (sym e)))
  line_reads (Err (BadLine m)) (e, nothing, schedule) = one (line_of line) refl where
    one : (read : Option (Option (List ℕ × List Entry))) → line_of line ≡ read → with_read n plan read ≡ Err (BadLine m)
    one None p = ap (λ i. Err (BadLine i)) (sym e)
    one (Some None) p = absurd (nothing (nothing_spelled line p))
    one (Some (Some read)) p = absurd (schedule read (line_spelled line read p))
  line_reads (Err (NameTwice m)) (e, read, k, twice) = rw (line_again line read k) (rw ((has_name_decides read.0 plan).1 twice) (ap (λ i. Err (NameTwice i)) (sym e)))
  line_reads (Err (TooLong m)) (e, read, k, fresh, long) =
      let once = false_from_ne_true (has_name read.0 plan) (λ t. fresh ((has_name_decides read.0 plan).0 t)) in
      rw (line_again line read k) (rw (once, (too_long_decides plan (named read)).1 long) (ap (λ i. Err (TooLong i)) (sym e)))
  line_reads (Err fault) h = absurd h

-- ---- all lines

-- the first fault from line n on
abbrev FaultIn : ℕ → List Named → List (List ℕ) → Fault → Type 0
FaultIn n plan lines fault =
    (before : List (List ℕ)) × (line : List ℕ) × (after : List (List ℕ)) × (more : List Named)
    × (lines ≡ before ++ line ∷ after) × Leads plan before more × IsFault more (n + length before) line fault

abbrev LinesSay : ℕ → List Named → List (List ℕ) → Answer → Type 0
LinesSay n plan lines (Ok after) = Leads plan lines after
LinesSay n plan lines (Err fault) = FaultIn n plan lines fault

leads_more : (plan : List Named) (line : List ℕ) (lines : List (List ℕ)) (more after : List Named) → Reads plan line more → Leads more lines after → Leads plan (line ∷ lines) after
leads_more plan line lines more after h5 h6 = grind (arith)

says_more : (n : ℕ) (plan : List Named) (line : List ℕ) (lines : List (List ℕ)) (more : List Named) (answer : Answer) → Reads plan line more → LinesSay (n + 1) more lines answer → LinesSay n plan (line ∷ lines) answer
says_more n plan line lines more (Ok after) h rest = leads_more plan line lines more after h rest
says_more n plan line lines more (Err fault) h (before, at, after, last, whole, leads, is) =
    (line ∷ before, at, after, last, ap (λ t. line ∷ t) whole, leads_more plan line before more last h leads, subst (λ m. IsFault last m at fault) (omega arith) is)

lines_say : (n : ℕ) (plan : List Named) (lines : List (List ℕ)) → LinesSay n plan lines (with_lines n plan lines)
lines_say n plan [] = refl
lines_say n plan (line ∷ lines) = one (with_read n plan (line_of line)) (line_says n plan line) (λ more. lines_say (n + 1) more lines) where
  one : (read : Answer) → LineSays n plan line read → ((more : List Named) → LinesSay (n + 1) more lines (with_lines (n + 1) more lines)) → LinesSay n plan (line ∷ lines) (read >>= λ more. with_lines (n + 1) more lines)
  one (Ok more) h later = says_more n plan line lines more (with_lines (n + 1) more lines) h (later more)
  one (Err fault) h later = ([], line, lines, plan, refl, refl, subst (λ m. IsFault plan m line fault) (omega arith) h)

leads_first : (plan : List Named) (line : List ℕ) (lines : List (List ℕ)) (after : List Named) → Leads plan (line ∷ lines) after → (more : List Named) × Reads plan line more × Leads more lines after
leads_first plan line lines after h4 = grind (arith)

lines_lead : (n : ℕ) (plan : List Named) (before rest : List (List ℕ)) (more : List Named) → Leads plan before more → with_lines n plan (before ++ rest) ≡ with_lines (n + length before) more rest
lines_lead n plan [] rest more h = ap (λ p. with_lines n p rest) (sym h) ∙ ap (λ i. with_lines i more rest) (omega arith)
lines_lead n plan (line ∷ before) rest more h =
    let first = leads_first plan line before more h in
    let count : n + 1 + length before ≡ n + suc (length before) = omega arith in
    ap (λ r. r >>= λ p. with_lines (n + 1) p (before ++ rest)) (line_reads n plan line (Ok first.0) first.1) ∙ lines_lead (n + 1) first.0 before rest more first.2 ∙ ap (λ i. with_lines i more rest) count

-- ---- the lines of a text

abbrev NoFeed : List ℕ → Type 0
NoFeed line = AllByRecursion (λ b. b ≢ 10) line

no_feeds : (text : List ℕ) → AllByRecursion NoFeed (parts_of 10 text)
no_feeds [] = (tt, tt)
no_feeds (b ∷ bs) = grind (arith, eqb-false, no_feeds bs)

parts_are : (text : List ℕ) → AreLines text (parts_of 10 text)
parts_are text = (omega (arith, length-slice_split (λ b. nat_eq b 10) text), no_feeds text, sym (join_with_byte-slice_split 10 text))

no_feed_lacks : (line : List ℕ) → NoFeed line → Lacks 10 line
no_feed_lacks [] h = tt
no_feed_lacks (b ∷ bs) h = (ne_eqb b 10 h.0, no_feed_lacks bs h.1)

parts_of_join : (lines : List (List ℕ)) → 0 < length lines → AllByRecursion NoFeed lines → parts_of 10 (join_with_byte 10 lines) ≡ lines
parts_of_join [] h k = absurd (omega (arith, h))
parts_of_join (line ∷ []) h k = parts_lacks 10 line (no_feed_lacks line k.0)
parts_of_join (line ∷ next ∷ lines) h k = grind (arith, parts_at, no_feed_lacks, parts_of_join (next ∷ lines) (omega arith) k.1)

lines_are_parts : (text : List ℕ) (lines : List (List ℕ)) → AreLines text lines → parts_of 10 text ≡ lines
lines_are_parts text lines h = ap (parts_of 10) h.2 ∙ parts_of_join lines h.0 h.1

-- ---- the laws

pub plan_law : (text : List ℕ) (plan : List Named) → (plan_of text ≡ Ok plan) ↔ IsPlan text plan
plan_law text plan = (
  λ h. (parts_of 10 text, parts_are text, subst (LinesSay 1 [] (parts_of 10 text)) h (lines_say 1 [] (parts_of 10 text))),
  λ (lines, are, leads). ap (with_lines 1 []) (lines_are_parts text lines are ∙ sym (append-nil lines)) ∙ lines_lead 1 [] lines [] plan leads,
)

pub fault_law : (text : List ℕ) (fault : Fault) → (plan_of text ≡ Err fault) ↔ IsFirstFault text fault
fault_law text fault = (
  λ h. let x = subst (LinesSay 1 [] (parts_of 10 text)) h (lines_say 1 [] (parts_of 10 text)) in
      (x.0, x.1, x.2, x.3, subst (AreLines text) x.4 (parts_are text), x.5, subst (λ m. IsFault x.3 m x.1 fault) (omega arith) x.6),
  λ (before, line, after, plan, are, leads, is).
      let here : IsFault plan (1 + length before) line fault = subst (λ m. IsFault plan m line fault) (omega arith) is in
      ap (with_lines 1 []) (lines_are_parts text (before ++ line ∷ after) are) ∙ lines_lead 1 [] before (line ∷ after) plan leads
      ∙ ap (λ r. r >>= λ p. with_lines (1 + length before + 1) p after) (line_reads (1 + length before) plan line (Err fault) here),
)
