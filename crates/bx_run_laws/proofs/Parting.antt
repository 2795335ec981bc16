-- The lines of a plan make a plan wherever they are cut, and its report follows those of the lines before.
use Rattle.std.proofs.Common.{◌≡◌, ◌∙◌, ◌⊎◌, inl, inr, ℕ, suc, ◌+◌, ◌≤◌, ◌<◌, Bool, true, false, cond, List, [], ◌∷◌, ◌++◌, length, Option, Some, None, Result, Ok, Err, append-nil, append_assoc, length-append, refl, sym, ap, subst, arith}
use Rattle.std.specs.Prelude.{nat_eq, nat_lt, ◌||◌, IsOk}
use Rattle.std.specs.List.{AllByRecursion, onto_first}
use Rattle.std.proofs.lemmas.Bool.Decides.{nat_tests}
use Rattle.std.proofs.lemmas.List.{map-append}
use Rattle.std.proofs.lemmas.List.Folds.{list_any-append}
use Rattle.std.proofs.lemmas.List.Splits.{length-slice_split}
use Rattle.std.proofs.lemmas.Bool.{or_parts}
use Rattle.std.specs.Str.{bytes_eq}
use Rattle.bx_terms.specs.Outcomes.{◌>>=◌}
use Rattle.bx_terms.specs.declared.faults.Fault.{Fault, TheVariants.NameTwice, TheVariants.NoEntry, TheVariants.TooLong}
use Rattle.bx_load.specs.Image.{Loaded}
use Rattle.bx_world.specs.World.{State, started}
use Rattle.bx_world.specs.declared.choices.Choice.{Choice}
use Rattle.bx_plan.specs.Entry.{Entry}
use Rattle.bx_plan.specs.Nodes.{IsPrefix, node_count}
use Rattle.bx_plan.specs.Plans.{Named, choices_of, has_name, is_too_long, named, plan_of, with_lines, with_read}
use Rattle.bx_plan.specs.Reading.{line_of, parts_of}
use Rattle.bx_plan.proofs.Counting.{fewer_nodes}
use Rattle.bx_board.specs.Jobs.{Entry as Begin}
use Rattle.bx_board.specs.Reported.{reported_alone}
use Rattle.bx_board.specs.Texts.{report_lines}
use Rattle.bx_engine.specs.Loads.{of_no_file}
use Rattle.bx_engine.specs.Runs.{Names, entry_in, report_of, reported}
use Rattle.bx_engine.specs.declared.failures.Failure.{Failure, TheVariants.Refused}
use Rattle.bx_engine.specs.Joints.{AreWhole}
use Rattle.bx_engine.proofs.PartsRead.{Answer, lines_after, lines_cut, ok_is, steps, whole_lines}
use Rattle.bx_run_laws.specs.Parted.{IsCutInto, IsReadable}

-- ---- lines behind others

prefix_behind : (front more : List (List Choice)) (path : List Choice) → IsPrefix more path → IsPrefix (front ++ more) path
prefix_behind [] more path h = h
prefix_behind (one ∷ front) more path h = inr (prefix_behind front more path h)

fewer : (front before : List Named) (schedule : Named) → node_count (choices_of (before ++ schedule ∷ [])) ≤ node_count (choices_of ((front ++ before) ++ schedule ∷ []))
fewer front before schedule =
    let all : choices_of ((front ++ before) ++ schedule ∷ []) ≡ choices_of front ++ choices_of (before ++ schedule ∷ []) =
    ap choices_of (append_assoc front before (schedule ∷ [])) ∙ map-append (λ s. s.1) front (before ++ schedule ∷ []) in
    let few = fewer_nodes (choices_of (before ++ schedule ∷ [])) (choices_of front ++ choices_of (before ++ schedule ∷ [])) (prefix_behind (choices_of front) (choices_of (before ++ schedule ∷ []))) in
    omega (arith, few, ap node_count all)

short_alone : (front before : List Named) (schedule : Named) → is_too_long (front ++ before) schedule ≡ false → is_too_long before schedule ≡ false
short_alone front before schedule e =
    let parts = or_parts (nat_lt 100000 (length schedule.1)) _ e in
    let fewer_here = fewer front before schedule in
    let few : nat_lt 1000000 (node_count (choices_of (before ++ schedule ∷ []))) ≡ false = grind (arith, nat_tests, parts.1, fewer_here) in
    ap (λ long. long || nat_lt 1000000 (node_count (choices_of (before ++ schedule ∷ [])))) parts.0 ∙ few

new_alone : (name : List ℕ) (front before : List Named) → has_name name (front ++ before) ≡ false → has_name name before ≡ false
new_alone name front before e = (or_parts (has_name name front) (has_name name before) (sym (list_any-append (λ s. bytes_eq name s.0) front before) ∙ e)).1

-- what lines make of a plan behind some schedules, they make of it alone
abbrev Alone : List Named → Answer → List Named → Type 0
Alone front answer after = (own : List Named) × (answer ≡ Ok own) × (front ++ own ≡ after)

read_alone : (n m : ℕ) (front before after : List Named) (read : Option (Option (List ℕ × List Entry))) → with_read n (front ++ before) read ≡ Ok after → Alone front (with_read m before read) after
read_alone n m front before after None e = cc
read_alone n m front before after (Some None) e = (before, refl, ok_is (front ++ before) after e)
read_alone n m front before after (Some (Some line)) e = one (has_name line.0 (front ++ before)) (is_too_long (front ++ before) (named line)) refl refl e where
  one : (twice long : Bool) → has_name line.0 (front ++ before) ≡ twice → is_too_long (front ++ before) (named line) ≡ long
      → cond twice (Err (NameTwice n)) (cond long (Err (TooLong n)) (Ok ((front ++ before) ++ named line ∷ []))) ≡ Ok after → Alone front (with_read m before (Some (Some line))) after
  one true long p q r = cc
  one false true p q r = cc
  one false false p q r = (
    before ++ named line ∷ [],
    ap (λ t. cond t (Err (NameTwice m)) (cond (is_too_long before (named line)) (Err (TooLong m)) (Ok (before ++ named line ∷ [])))) (new_alone line.0 front before p)
        ∙ ap (λ t. cond t (Err (TooLong m)) (Ok (before ++ named line ∷ []))) (short_alone front before (named line) q),
    sym (append_assoc front before (named line ∷ [])) ∙ ok_is ((front ++ before) ++ named line ∷ []) after r,
  )

lines_alone : (n m : ℕ) (front before after : List Named) (lines : List (List ℕ)) → with_lines n (front ++ before) lines ≡ Ok after → Alone front (with_lines m before lines) after
lines_alone n m front before after [] e = (before, refl, ok_is (front ++ before) after e)
lines_alone n m front before after (line ∷ lines) e =
    let step = steps (with_read n (front ++ before) (line_of line)) (λ next. with_lines (n + 1) next lines) after e in
    let here = read_alone n m front before step.0 (line_of line) step.1 in
    let more = lines_alone (n + 1) (m + 1) front here.0 after lines (ap (λ p. with_lines (n + 1) p lines) here.2 ∙ step.2) in
    (more.0, ap (λ r. r >>= λ p. with_lines (m + 1) p lines) here.1 ∙ more.1, more.2)

-- ---- plans

abbrev Halves : List ℕ → List ℕ → List Named → Type 0
Halves part rest plan = (first : List Named) × (plan_of part ≡ Ok first) × Alone first (plan_of rest) plan

halves : (part rest : List ℕ) (plan : List Named) → AreWhole part → plan_of (part ++ rest) ≡ Ok plan → Halves part rest plan
halves part rest plan (inl none) e = ([], ap plan_of none, (plan, ap (λ t. plan_of (t ++ rest)) (sym none) ∙ e, refl))
halves part rest plan (inr (front, ends)) e =
    let lines = parts_of 10 front in
    let all : with_lines 1 [] (lines ++ parts_of 10 rest) ≡ Ok plan =
    sym (ap (λ t. plan_of (t ++ rest)) ends ∙ ap plan_of (append_assoc front (10 ∷ []) rest) ∙ ap (with_lines 1 []) (lines_cut front rest)) ∙ e in
    let step = steps (with_lines 1 [] lines) (λ middle. with_lines (1 + length lines) middle (parts_of 10 rest)) plan (sym (lines_after 1 [] lines (parts_of 10 rest)) ∙ all) in (
      step.0,
      ap plan_of ends ∙ whole_lines front ∙ step.1,
      lines_alone (1 + length lines) 1 step.0 [] plan (parts_of 10 rest) (ap (λ p. with_lines (1 + length lines) p (parts_of 10 rest)) (append-nil step.0) ∙ step.2),
    )

plan_in_ok : (text : List ℕ) → IsOk (plan_of text) → (plan : List Named) × (plan_of text ≡ Ok plan)
plan_in_ok text good = one (plan_of text) refl good where
  one : (read : Answer) → plan_of text ≡ read → IsOk read → (plan : List Named) × (plan_of text ≡ Ok plan)
  one (Ok plan) e h = (plan, e)
  one (Err fault) e h = cc

-- what a plan is whose lines are cut in two
pub record IsHalved (part rest : List ℕ) : Type 0 where
  pub first : List Named
  pub second : List Named
  pub before : plan_of part ≡ Ok first
  pub behind : plan_of rest ≡ Ok second
  pub both : plan_of (part ++ rest) ≡ Ok (first ++ second)

pub halved : (part rest : List ℕ) → AreWhole part → IsOk (plan_of (part ++ rest)) → IsHalved part rest
halved part rest whole good =
    let plan = plan_in_ok (part ++ rest) good in
    let cut = halves part rest plan.0 whole plan.1 in
    record { first = cut.0; second = cut.2.0; before = cut.1; behind = cut.2.1; both = plan.1 ∙ ap (λ p. Ok p) (sym cut.2.2) }

pub readable_halves : (part rest : List ℕ) → AreWhole part → IsReadable (part ++ rest) → IsReadable part × IsReadable rest
readable_halves part rest whole good =
    let cut = halved part rest whole good.1 in
    let sum = length-append part rest in
    ((omega (arith, sum, good.0), subst IsOk (sym cut.before) refl), (omega (arith, sum, good.0), subst IsOk (sym cut.behind) refl))

pub each_is_readable : (text : List ℕ) (parts : List (List ℕ)) → IsReadable text → IsCutInto text parts → AllByRecursion IsReadable parts
each_is_readable text [] good cut = absurd cut
each_is_readable text (last ∷ []) good cut = (subst IsReadable cut good, tt)
each_is_readable text (part ∷ next ∷ parts) good (whole, rest, more, e) =
    let two = readable_halves part rest whole (subst IsReadable e good) in
    (two.0, each_is_readable rest (next ∷ parts) two.1 more)

-- ---- the report of a plan that is read

abbrev pub IsRefused : Loaded → Names → Type 0
IsRefused image names = (failure : Failure) × ((plan : List Named) → report_of image names plan ≡ Err failure)

abbrev pub IsTold : Loaded → Names → Type 0
IsTold image names = (entry : Begin) × ((plan : List Named) → report_of image names plan ≡ Ok (report_lines image.atoms (reported_alone image entry plan)))

-- a start is refused with each plan, or with none
pub is_told : (image : Loaded) (names : Names) → IsRefused image names ⊎ IsTold image names
is_told image names = found (entry_in image names) refl where
  found : (entry : Option Begin) → entry_in image names ≡ entry → IsRefused image names ⊎ IsTold image names
  found None e = inl (Refused NoEntry None, λ plan. ap (λ o. of_no_file (reported image o plan >>= λ rows. Ok (report_lines image.atoms rows))) e)
  found (Some entry) e = begun (started image entry.0 entry.1) refl where
    by : (start : Result State Fault) → started image entry.0 entry.1 ≡ start → (plan : List Named)
        → report_of image names plan ≡ of_no_file ((start >>= λ world. Ok (reported_alone image entry plan)) >>= λ rows. Ok (report_lines image.atoms rows))
    by start b plan =
        ap (λ o. of_no_file (reported image o plan >>= λ rows. Ok (report_lines image.atoms rows))) e
        ∙ ap (λ (r : Result State Fault). of_no_file ((r >>= λ world. Ok (reported_alone image entry plan)) >>= λ rows. Ok (report_lines image.atoms rows))) b

    begun : (start : Result State Fault) → started image entry.0 entry.1 ≡ start → IsRefused image names ⊎ IsTold image names
    begun (Ok world) b = inr (entry, by (Ok world) b)
    begun (Err fault) b = inl (Refused fault None, by (Err fault) b)
