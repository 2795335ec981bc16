use Rattle.bx_plan.proofs.Words.{arith, common_steps}
use Rattle.bx_plan.proofs.Counts.{count_push, length_spread, spread_push}
use Rattle.bx_plan.proofs.entries.Entries.add.Goals as goal

pub returns : goal.returns
returns c entries made = grind (arith, common_steps, count_push, spread_push, length_spread)
