-- The report of a plan whose lines are cut is the reports of its parts.
use Rattle.std.proofs.Common.{◌≡◌, ◌∙◌, ◌⊎◌, inl, inr, ℕ, ◌≤◌, false, cond, List, [], ◌∷◌, ◌++◌, length, map, Some, Result, Ok, Err, append-nil, append_assoc, refl, sym, ap, subst, arith}
use Rattle.std.specs.Prelude.{◌==◌, ◌||◌, nat_lt}
use Rattle.std.proofs.lemmas.Bool.Decides.{nat_tests}
use Rattle.std.proofs.lemmas.List.{map-append}
use Rattle.bx_terms.specs.declared.faults.Fault.TheVariants.{TooLarge, Workers}
use Rattle.bx_load.specs.Image.{Loaded}
use Rattle.bx_plan.specs.Plans.{Named, plan_of}
use Rattle.bx_board.specs.Reported.{reported_alone, told_alone}
use Rattle.bx_board.specs.Texts.{report_lines, schedule_lines}
use Rattle.bx_board.specs.declared.reports.Scheduled.{Scheduled}
use Rattle.bx_engine.specs.Campaigns.{campaign_as, campaign_behind, campaign_in}
use Rattle.bx_engine.specs.Inputs.{input_limit}
use Rattle.bx_engine.specs.Loads.{image_of, of_no_file, plan_in}
use Rattle.bx_engine.specs.Runs.{Names, or_start, report_of, run_as, run_behind, run_of, written_behind, written_in}
use Rattle.bx_engine.specs.Starts.{start_in}
use Rattle.bx_engine.specs.Units.{◌>>=◌, in_file}
use Rattle.bx_engine.specs.declared.failures.Failure.{Failure, TheVariants.Refused}
use Rattle.bx_engine.specs.declared.forms.Form.{Form}
use Rattle.bx_engine.specs.Joints.{AreWhole}
use Rattle.bx_engine.proofs.JointRows.{rows_behind}
use Rattle.bx_run_laws.specs.Parted.{IsCutInto, IsReadable, joined}
use Rattle.bx_run_laws.proofs.Parting.{IsRefused, IsTold, halved, is_told, readable_halves}

abbrev Answer : Type 0
Answer = Result (List ℕ) Failure

abbrev two : Answer → Answer → Answer
two first second = first >>= λ text. second >>= λ more. Ok (text ++ more)

reports_behind : (image : Loaded) (names : Names) (first second : List Named) → report_of image names (first ++ second) ≡ two (report_of image names first) (report_of image names second)
reports_behind image names first second = one (is_told image names) where
  one : IsRefused image names ⊎ IsTold image names → report_of image names (first ++ second) ≡ two (report_of image names first) (report_of image names second)
  one (inl (failure, all)) = all (first ++ second) ∙ sym (ap (λ r. two r (report_of image names second)) (all first))
  one (inr (entry, all)) =
      all (first ++ second)
      ∙ ap Ok (ap (report_lines image.atoms) (map-append (told_alone image entry) first second) ∙ rows_behind image.atoms (reported_alone image entry first) (reported_alone image entry second))
      ∙ sym (ap (λ r. two r (report_of image names second)) (all first) ∙ ap (two (Ok (report_lines image.atoms (reported_alone image entry first)))) (all second))

read_in : (n : ℕ) (text : List ℕ) (plan : List Named) → length text ≤ input_limit → plan_of text ≡ Ok plan → plan_in n text ≡ Ok plan
read_in n text plan within e =
    let small : nat_lt input_limit (length text) ≡ false = grind (arith, nat_tests, within) in
    ap (λ large. cond large (Err (Refused TooLarge (Some n))) (Ok text) >>= λ bytes. in_file n (plan_of bytes)) small ∙ ap (in_file n) e

halves_report : (start : List ℕ) (given : List (List ℕ)) (part rest : List ℕ) → AreWhole part → IsReadable (part ++ rest) → run_of start given (part ++ rest) ≡ two (run_of start given part) (run_of start given rest)
halves_report start given part rest whole good = begun (or_start (start_in start)) where
  n : ℕ
  n = length given

  begun : (names : Result Names Failure) → (names >>= λ m. run_behind m given (part ++ rest)) ≡ two (names >>= λ m. run_behind m given part) (names >>= λ m. run_behind m given rest)
  begun (Err failure) = refl
  begun (Ok names) = loaded (image_of given) where
    behind : List ℕ → Loaded → Answer
    behind text image = plan_in n text >>= λ plan. report_of image names plan

    loaded : (image : Result Loaded Failure) → (image >>= behind (part ++ rest)) ≡ two (image >>= behind part) (image >>= behind rest)
    loaded (Err failure) = refl
    loaded (Ok image) =
        let cut = halved part rest whole good.1 in
        let each = readable_halves part rest whole good in
        let on : (text : List ℕ) (plan : List Named) → plan_in n text ≡ Ok plan → behind text image ≡ report_of image names plan = λ text plan e. ap (λ r. r >>= λ p. report_of image names p) e in
        on (part ++ rest) (cut.first ++ cut.second) (read_in n (part ++ rest) (cut.first ++ cut.second) good.0 cut.both)
        ∙ reports_behind image names cut.first cut.second
        ∙ sym (
        ap (λ r. two r (behind rest image)) (on part cut.first (read_in n part cut.first each.0.0 cut.before))
        ∙ ap (two (report_of image names cut.first)) (on rest cut.second (read_in n rest cut.second each.1.0 cut.behind))
        )

one_alone : (report : Answer) → report ≡ two report (Ok [])
one_alone (Ok text) = ap Ok (sym (append-nil text))
one_alone (Err failure) = refl

pub cut_reports : (start : List ℕ) (given : List (List ℕ)) (text : List ℕ) (parts : List (List ℕ)) → IsReadable text → IsCutInto text parts → run_of start given text ≡ joined (map (run_of start given) parts)
cut_reports start given text [] good cut = absurd cut
cut_reports start given text (last ∷ []) good cut = ap (run_of start given) cut ∙ one_alone (run_of start given last)
cut_reports start given text (part ∷ next ∷ parts) good (whole, rest, more, e) =
    let all = subst IsReadable e good in
    ap (run_of start given) e ∙ halves_report start given part rest whole all
    ∙ ap (two (run_of start given part)) (cut_reports start given rest (next ∷ parts) (readable_halves part rest whole all).1 more)

-- ---- by workers

pub campaign_is_run : (form : Form) (workers : ℕ) (start : List ℕ) (given : List (List ℕ)) (planned : List ℕ) → 1 ≤ workers → workers ≤ 64
    → campaign_as form workers start given planned ≡ run_as form start given planned
campaign_is_run form workers start given planned some few = begun (or_start (start_in start)) where
  may : ((workers == 0) || nat_lt 64 workers) ≡ false
  may = grind (arith, nat_tests, some, few)

  begun : (names : Result Names Failure) → (names >>= λ m. campaign_behind form workers m given planned) ≡ (names >>= λ m. written_behind form m given planned)
  begun (Err failure) = refl
  begun (Ok names) = loaded (image_of given) (plan_in (length given) planned) where
    loaded : (image : Result Loaded Failure) (plan : Result (List Named) Failure)
        → (image >>= λ i. plan >>= λ p. of_no_file (campaign_in form workers i names p)) ≡ (image >>= λ i. plan >>= λ p. of_no_file (written_in form i names p))
    loaded (Err failure) plan = refl
    loaded (Ok image) (Err failure) = refl
    loaded (Ok image) (Ok plan) = ap (λ refused. of_no_file (cond refused (Err Workers) (written_in form image names plan))) may
