use Rattle.bx_plan.proofs.Words.{choices_of, lines_view}
use Rattle.bx_plan.proofs.Counting.{IsCounted}
use Rattle.bx_plan.proofs.plans.counting.is_full.Given as goal

abbrev pub invariant-loop-row : goal.invariant-loop-row
invariant-loop-row l = IsCounted (choices_of (lines_view l.lines)) l.count l.rows l.row-index l.nodes l.common
