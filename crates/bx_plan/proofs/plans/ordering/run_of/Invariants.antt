use Rattle.bx_plan.proofs.Words.{choices_of, lines_view}
use Rattle.bx_plan.proofs.Sorting.{IsRun}
use Rattle.bx_plan.proofs.plans.ordering.run_of.Given as goal

abbrev pub invariant-loop-next : goal.invariant-loop-next
invariant-loop-next l = IsRun (choices_of (lines_view l.lines)) l.line l.next l.rows.items
