use Rattle.bx_proc.proofs.Refusing.{held_up}
use Rattle.bx_proc.proofs.laws.a_pending_fault_is_looked_at_first.Goals as goal

pub returns : goal.returns
returns c image pid here i fault p s a at pending is blind = held_up image pid here i fault p s a at pending is blind
