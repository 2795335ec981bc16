use Rattle.bx_debug.proofs.Lawful.{stepped_back}
use Rattle.bx_debug.proofs.laws.stepping_back_shows_the_world_before.Goals as goal

pub returns : goal.returns
returns c = stepped_back
