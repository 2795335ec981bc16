use Rattle.bx_debug.proofs.Lawful.{tidy_shows, undo_shows}
use Rattle.bx_debug.proofs.laws.exchanges_leave_the_world_shown.Goals as goal

pub returns : goal.returns
returns c = record { tidied = tidy_shows; undone = undo_shows }
