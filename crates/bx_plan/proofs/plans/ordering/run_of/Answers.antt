use Rattle.bx_plan.proofs.Words.{◌≡◌, ◌+◌, ◌-◌, [], ◌∷◌, ◌++◌, List, Choice, refl, sym, ap, subst, ◌∙◌, arith, common_steps, is_gt, Row, AreInOrder, choices_of, lines_view}
use Rattle.bx_plan.specs.Ordered.{Stands}
use Rattle.bx_plan.proofs.Counting.{lines_long}
use Rattle.bx_plan.proofs.Sorting.{last_of, run_push, IsRun}
use Rattle.bx_plan.proofs.plans.ordering.run_of.Goals as goal

pub loop-next-init : goal.loop-next-init
loop-next-init c =
    let schedules = choices_of (lines_view c.args.lines.now) in
    let row : Row = record { line = c.args.line; common = 0 } in
    let stands : Stands schedules [] row = record { within = omega (arith, lines_long c.args.lines.now); behind = grind (arith, common_steps); common = refl } in
    subst (IsRun schedules c.args.line (c.args.line + 1)) (sym (c.in_ok-push.ensures.items ∙ ap (λ rows. rows ++ row ∷ []) c.new-rows.ensures.items))
    (run_push schedules c.args.line c.args.line [] row (record { from = tt; all = λ k h l. absurd (omega arith) }) stands refl)

pub schedule_at-last-requires : goal.schedule_at-last-requires
schedule_at-last-requires c = omega (arith, lines_long c.args.lines.now)

pub schedule_at-requires : goal.schedule_at-requires
schedule_at-requires c = omega (arith, lines_long c.args.lines.now)

pub loop-next-preserved : goal.loop-next-preserved
loop-next-preserved c =
    let schedules = choices_of (lines_view c.args.lines.now) in
    let at = c.loop-next in
    let row : Row = record { line = at.next; common = c.compare-common.result.0 } in
    let last : last_of schedules [] at.rows.items ≡ c.schedule_at-last.result.now = at.invariant.last (at.next - 1) (omega arith) ∙ sym c.schedule_at-last.ensures in
    let here = c.schedule_at.ensures in
    let stands : Stands schedules c.schedule_at-last.result.now row = record {
      within = omega (arith, lines_long c.args.lines.now);
      behind = rw here at (sym (ap is_gt c.compare-common.ensures.order) ∙ sym c.is_gt.ensures ∙ c.if-is_gt.false);
      common = rw here at c.compare-common.ensures.common;
    } in
    subst (IsRun schedules c.args.line (at.next + 1)) (sym c.in_ok-push-2.ensures.items)
    (run_push schedules c.args.line at.next at.rows.items row at.invariant.are (subst (λ (cs : List Choice). Stands schedules cs row) (sym last) stands) refl)

pub returns : goal.returns
returns c =
    let whole : c.loop-next.next ≡ c.args.past = omega arith in
    subst (AreInOrder (choices_of (lines_view c.args.lines.now)) c.args.line c.args.past) (sym c.shrink_to_fit.ensures.items)
    (subst (λ k. AreInOrder (choices_of (lines_view c.args.lines.now)) c.args.line k c.loop-next.rows.items) whole c.loop-next.invariant.are)
