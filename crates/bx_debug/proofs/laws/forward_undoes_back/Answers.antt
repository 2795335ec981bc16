use Rattle.bx_debug.proofs.Lawful.{forward_back}
use Rattle.bx_debug.proofs.laws.forward_undoes_back.Goals as goal

pub returns : goal.returns
returns c = forward_back
