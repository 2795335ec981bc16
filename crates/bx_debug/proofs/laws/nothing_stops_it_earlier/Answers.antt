use Rattle.bx_debug.proofs.Stopped.{walked_earlier}
use Rattle.bx_debug.proofs.laws.nothing_stops_it_earlier.Goals as goal

pub returns : goal.returns
returns c = walked_earlier
