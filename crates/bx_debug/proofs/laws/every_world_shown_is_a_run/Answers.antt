use Rattle.bx_debug.proofs.Lawful.{always_run}
use Rattle.bx_debug.proofs.laws.every_world_shown_is_a_run.Goals as goal

pub returns : goal.returns
returns c = always_run
