use Rattle.bx_plan.proofs.Words.{List, subst, Row, AreMerged, choices_of, lines_view}
use Rattle.bx_plan.proofs.Sorting.{both_orders}
use Rattle.bx_plan.proofs.plans.ordering.+in_order.Goals as goal

pub returns-clause-rows : goal.returns-clause-rows
returns-clause-rows t c =
    let schedules = choices_of (lines_view c.args.lines.now) in
    let rows = c.in_ok-rows-2.rows.items in
    let is = subst (λ (xs : List Row). AreMerged schedules xs c.in_ok-other.other.items rows) c.deref.ensures.value
    (subst (λ (ys : List Row). AreMerged schedules c.deref.result.now ys rows) c.deref-2.ensures.value c.in_ok-rows-2.ensures) in
    both_orders schedules c.args.line _ c.args.past c.in_ok-one.one.items c.in_ok-other.other.items rows c.in_ok-one.ensures.rows c.in_ok-other.ensures.rows is
