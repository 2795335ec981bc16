use Rattle.bx_engine.proofs.PlanLaw.{reads_back}
use Rattle.bx_debugger.proofs.laws.a_plan_is_read_back.Goals as goal

pub returns : goal.returns
returns c = reads_back
