use Rattle.bx_plan.proofs.Words.{arith, common_steps}
use Rattle.bx_plan.proofs.Counting.{lines_long}
use Rattle.bx_plan.proofs.Sorting.{rows_are}
use Rattle.bx_plan.proofs.plans.ordering.rows_of.Goals as goal

pub returns-clause-rows : goal.returns-clause-rows
returns-clause-rows c = grind (arith, common_steps, rows_are, lines_long)
