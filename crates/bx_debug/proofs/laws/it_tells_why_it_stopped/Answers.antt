use Rattle.bx_debug.proofs.Stopped.{walked_why}
use Rattle.bx_debug.proofs.laws.it_tells_why_it_stopped.Goals as goal

pub returns : goal.returns
returns c = walked_why
