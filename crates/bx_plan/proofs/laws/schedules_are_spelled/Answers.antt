use Rattle.bx_plan.proofs.Headings.{schedule_law}
use Rattle.bx_plan.proofs.laws.schedules_are_spelled.Goals as goal

pub returns : goal.returns
returns c = schedule_law
