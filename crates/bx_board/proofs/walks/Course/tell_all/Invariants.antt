use Rattle.std.proofs.Common.{length}
use Rattle.bx_board.specs.Walks.{IsWalk, job_of}
use Rattle.bx_board.proofs.walks.Course.tell_all.Given as goal

abbrev pub invariant-loop-ending : goal.invariant-loop-ending
invariant-loop-ending l = IsWalk (job_of l.self) l.walk

abbrev pub decreases-loop-ending : goal.decreases-loop-ending
decreases-loop-ending l = length l.walk.endings.items
