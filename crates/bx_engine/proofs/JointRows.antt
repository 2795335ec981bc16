-- One part more behind those of a plan's text that are joined.
use Rattle.std.proofs.Common.{◌≡◌, ◌∙◌, ℕ, ◌+◌, ◌-◌, ◌≤◌, Bool, true, false, cond, ◌||◌, List, [], ◌∷◌, ◌++◌, length, take, Option, None, Some, Result, Ok, Err, append_assoc, refl, sym, ap, subst, arith, string_bytes, Bor, Global, Vec}
use Rattle.std.specs.Prelude.{IfSome, IsOk, option_map, slice_get}
use Rattle.std.specs.BTreeSet.{BTreeSet, Updates, contains}
use Rattle.std.specs.List.{All, list_any}
use Rattle.std.specs.Str.{bytes_eq}
use Rattle.std.proofs.Math.Seq.{take-add}
use Rattle.std.proofs.lemmas.Bool.{or_parts}
use Rattle.std.proofs.lemmas.Bool.Decides.{same_from_decides}
use Rattle.std.proofs.lemmas.List.{map-append, take_all, take_more}
use Rattle.std.proofs.lemmas.List.Elements.{All-append, All-head, All-tail}
use Rattle.std.proofs.lemmas.List.Folds.{list_any-append}
use Rattle.std.proofs.lemmas.Map.Text.{is_eq-slice_cmp}
use Rattle.std.proofs.lemmas.Option.{get_or_from_slice_get, slice_get_within}
use Rattle.std.proofs.lemmas.Slice.Eq.{bytes_eq-Decides}
use Rattle.bx_terms.specs.Outcomes.{◌>>=◌}
use Rattle.bx_terms.specs.declared.faults.Fault.{Fault}
use Rattle.bx_load.specs.Image.{Loaded}
use Rattle.bx_world.specs.World.{State, started}
use Rattle.bx_plan.specs.Plans.{Named, has_name, plan_of}
use Rattle.bx_board.specs.Jobs.{Entry}
use Rattle.bx_board.specs.Reported.{reported_alone, told_alone}
use Rattle.bx_board.specs.Texts.{report_lines, schedule_lines}
use Rattle.bx_board.specs.declared.reports.Scheduled.{Scheduled}
use Rattle.bx_engine.specs.Joints.{AreApart, AreWhole, IsJoint, IsPart, IsReportOf, Knows, between, lines_from, text_cmp}
use Rattle.bx_engine.specs.declared.joints.Joint.{Joint}
use Rattle.bx_engine.specs.declared.joints.Part.{Part}
use Rattle.bx_engine.specs.declared.joints.Task.{Task}
use Rattle.bx_engine.proofs.PartsRead.{both_read}
use Rattle.bx_engine.proofs.PrefixCounts.{count_both}

-- ---- names

turned : (xs ys : List ℕ) → bytes_eq xs ys ≡ bytes_eq ys xs
turned xs ys =
    let back = bytes_eq-Decides ys xs in
    same_from_decides _ _ (bytes_eq-Decides xs ys) (λ h. sym (back.0 h), λ e. back.1 (sym e))

either : (here before : Bool) → cond here true before ≡ (before || (here || false))
either true true = refl
either true false = refl
either false true = refl
either false false = refl

-- the set with one name more
knows_more : (names more : BTreeSet (Bor (List ℕ))) (key : Bor (List ℕ)) (plan : List Named) (schedule : Named) → Knows names plan → Updates text_cmp names more key true → schedule.0 ≡ key.now
    → Knows more (plan ++ schedule ∷ [])
knows_more names more key plan schedule knows updates same name =
    updates.0 name
    ∙ ap (λ b. cond b true (contains text_cmp names name)) (is_eq-slice_cmp key.now name.now ∙ turned key.now name.now ∙ ap (bytes_eq name.now) (sym same))
    ∙ ap (cond (bytes_eq name.now schedule.0) true) (knows name)
    ∙ either (bytes_eq name.now schedule.0) (has_name name.now plan)
    ∙ sym (list_any-append (λ s. bytes_eq name.now s.0) plan (schedule ∷ []))

-- the names of the first so many schedules of a plan are added
abbrev pub AreAdded : BTreeSet (Bor (List ℕ)) → BTreeSet (Bor (List ℕ)) → List Named → Type 0
AreAdded old new plan = (before : List Named) → Knows old before → Knows new (before ++ plan) × AreApart before plan

abbrev IsNamed : Option Named → List ℕ → Type 0
IsNamed schedule name = Some name ≡ option_map (λ (s : Named). s.0) schedule

pub one_added : (old names more : BTreeSet (Bor (List ℕ))) (key : Bor (List ℕ)) (plan : List Named) (n : ℕ)
    → IsNamed (slice_get plan n) key.now → Updates text_cmp names more key true → contains text_cmp names key ≡ false
    → AreAdded old names (take n plan) → AreAdded old more (take (n + 1) plan)
one_added old names more key plan n named updates new added before knows = one (slice_get plan n) refl named where
  one : (schedule : Option Named) → slice_get plan n ≡ schedule → IsNamed schedule key.now → Knows more (before ++ take (n + 1) plan) × AreApart before (take (n + 1) plan)
  one None e name = cc
  one (Some schedule) e name =
      let so_far = added before knows in
      let same : schedule.0 ≡ key.now = cc in
      let longer : take (n + 1) plan ≡ take n plan ++ schedule ∷ [] =
      take_more plan n schedule (slice_get_within plan n schedule e) ∙ ap (λ s. take n plan ++ s ∷ []) (get_or_from_slice_get plan n schedule schedule e) in
      let fresh : has_name schedule.0 (before ++ take n plan) ≡ false = ap (λ m. has_name m (before ++ take n plan)) same ∙ sym (so_far.0 key) ∙ new in
      let apart : has_name schedule.0 before ≡ false = (or_parts _ _ (sym (list_any-append (λ s. bytes_eq schedule.0 s.0) before (take n plan)) ∙ fresh)).0 in (
        subst (Knows more) (append_assoc before (take n plan) (schedule ∷ []) ∙ ap (λ p. before ++ p) (sym longer)) (knows_more names more key (before ++ take n plan) schedule so_far.0 updates same),
        ap (list_any (λ s. has_name s.0 before)) longer ∙ list_any-append (λ s. has_name s.0 before) (take n plan) (schedule ∷ [])
            ∙ ap (λ b. b || (has_name schedule.0 before || false)) so_far.1 ∙ ap (λ b. b || false) apart,
      )

-- ---- reports

pub rows_behind : (texts : List (List ℕ)) (first more : List Scheduled) → report_lines texts (first ++ more) ≡ report_lines texts first ++ report_lines texts more
rows_behind texts [] more = refl
rows_behind texts (one ∷ first) more = ap (λ rest. schedule_lines texts one ++ rest) (rows_behind texts first more) ∙ sym (append_assoc (schedule_lines texts one) (report_lines texts first) (report_lines texts more))

-- a report that is made is that of an exported start
abbrev IsTold : Loaded → Entry → List Named → List ℕ → Type 0
IsTold image start plan report = IsOk (started image start.0 start.1) × (report ≡ report_lines image.atoms (reported_alone image start plan))

told : (image : Loaded) (start : Entry) (plan : List Named) (report : List ℕ) → lines_from image start plan ≡ Ok report → IsTold image start plan report
told image start plan report e = one (started image start.0 start.1) refl e where
  lines : List ℕ
  lines = report_lines image.atoms (reported_alone image start plan)

  one : (world : Result State Fault) → started image start.0 start.1 ≡ world → (world >>= (λ w. Ok (reported_alone image start plan)) >>= λ rows. Ok (report_lines image.atoms rows)) ≡ Ok report → IsTold image start plan report
  one (Ok world) s r = (subst IsOk (sym s) refl, let same : lines ≡ report = cc in sym same)
  one (Err fault) s r = cc

told_again : (image : Loaded) (start : Entry) (plan : List Named) → IsOk (started image start.0 start.1) → lines_from image start plan ≡ Ok (report_lines image.atoms (reported_alone image start plan))
told_again image start plan good = one (started image start.0 start.1) good where
  one : (world : Result State Fault) → IsOk world → (world >>= (λ w. Ok (reported_alone image start plan)) >>= λ rows. Ok (report_lines image.atoms rows)) ≡ Ok (report_lines image.atoms (reported_alone image start plan))
  one (Ok world) h = refl
  one (Err fault) h = cc

-- ---- parts

-- what a worker made, if it did, are parts
abbrev pub AreMade : Task → Option (Vec Part Global) → Type 0
AreMade task row = IfSome row (λ parts. All (IsPart task) parts.items)

-- the parts of one worker more
pub one_row : (task : Task) (rows rest : List (Option (Vec Part Global))) (parts : Vec Part Global) (made more : List Part)
    → All (AreMade task) rows → rows ≡ Some parts ∷ rest → All (IsPart task) made → more ≡ made ++ parts.items → All (IsPart task) more × All (AreMade task) rest
one_row task rows rest parts made more all e here items =
    let now : All (AreMade task) (Some parts ∷ rest) = subst (All (AreMade task)) e all in (
      subst (All (IsPart task)) (sym items) (All-append (IsPart task) made parts.items here (All-head (AreMade task) (Some parts) rest now)),
      All-tail (AreMade task) (Some parts) rest now,
    )

pub joint_next : (task : Task) (joint next : Joint) (part : Part) → IsJoint task joint → IsPart task part
    → part.first ≡ joint.past → AreWhole (take joint.past task.text.now) → next.past ≡ part.past → AreAdded joint.names next.names part.plan
    → next.prefixes ≡ joint.prefixes + part.prefixes → next.prefixes ≤ 1000000 → string_bytes next.report ≡ string_bytes joint.report ++ string_bytes part.report
    → IsJoint task next
joint_next task joint next part is this meets whole past added sum most report =
    let text = task.text.now in
    let image = task.image.now in
    let names = added is.plan is.names in
    let both = count_both is.plan part.plan in
    let few = is.few in
    let other = this.few in
    let behind : plan_of (between joint.past part.past text) ≡ Ok part.plan = ap (λ n. plan_of (between n part.past text)) (sym meets) ∙ this.read in
    let all : take part.past text ≡ take joint.past text ++ between joint.past part.past text =
    (let e : part.past ≡ joint.past + (part.past - joint.past) = omega (arith, this.order, meets) in ap (λ n. take n text) e ∙ take-add joint.past (part.past - joint.past) text) in
    record {
      plan = is.plan ++ part.plan;
      within = omega (arith, past, this.within);
      read = ap (λ n. plan_of (take n text)) past ∙ ap plan_of all
          ∙ both_read (take joint.past text) (between joint.past part.past text) is.plan part.plan whole is.read behind names.1 (omega (arith, both, few, other, sum, most));
      names = names.0;
      few = omega (arith, both, few, other, sum);
      report = report ∙ ap (λ r. r ++ string_bytes part.report) is.report
          ∙ ap (λ r. report_lines image.atoms (reported_alone image task.start is.plan) ++ r) (told image task.start part.plan (string_bytes part.report) this.report).1
          ∙ sym (rows_behind image.atoms (reported_alone image task.start is.plan) (reported_alone image task.start part.plan))
          ∙ ap (report_lines image.atoms) (sym (map-append (told_alone image task.start) is.plan part.plan));
    }

pub part_starts : (task : Task) (part : Part) → IsPart task part → IsOk (started task.image.now task.start.0 task.start.1)
part_starts task part this = (told task.image.now task.start part.plan (string_bytes part.report) this.report).0

-- all of the text is joined
pub joint_done : (task : Task) (joint : Joint) → IsJoint task joint → IsOk (started task.image.now task.start.0 task.start.1) → joint.past ≡ length task.text.now → IsReportOf task (string_bytes joint.report)
joint_done task joint is good all = record {
  plan = is.plan;
  read = ap plan_of (sym (take_all joint.past task.text.now (omega (arith, all)))) ∙ is.read;
  lines = told_again task.image.now task.start is.plan good ∙ ap Ok (sym is.report);
}
