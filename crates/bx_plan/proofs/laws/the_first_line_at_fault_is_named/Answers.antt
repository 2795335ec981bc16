use Rattle.bx_plan.proofs.Accepting.{fault_law}
use Rattle.bx_plan.proofs.laws.the_first_line_at_fault_is_named.Goals as goal

pub returns : goal.returns
returns c = fault_law
