use Rattle.bx_plan.proofs.Words.{arith, eq-eqb, eqb-true, common_steps}
use Rattle.bx_plan.proofs.Commons.{all_alike, common_same}
use Rattle.bx_plan.proofs.schedules.Schedule.same.Goals as goal

pub returns-then-count-len : goal.returns-then-count-len
returns-then-count-len c = grind (arith, common_steps, all_alike, eqb-true, eq-eqb, common_same)
