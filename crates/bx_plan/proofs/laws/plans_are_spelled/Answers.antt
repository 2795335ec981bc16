use Rattle.bx_plan.proofs.Accepting.{plan_law}
use Rattle.bx_plan.proofs.laws.plans_are_spelled.Goals as goal

pub returns : goal.returns
returns c = plan_law
