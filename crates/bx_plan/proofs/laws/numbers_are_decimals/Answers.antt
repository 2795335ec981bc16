use Rattle.bx_plan.proofs.Decimals.{number_law}
use Rattle.bx_plan.proofs.laws.numbers_are_decimals.Goals as goal

pub returns : goal.returns
returns c = number_law
