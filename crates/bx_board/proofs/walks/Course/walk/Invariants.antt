use Rattle.bx_board.specs.Walks.{IsWalk, job_of}
use Rattle.bx_board.proofs.walks.Course.walk.Given as goal

abbrev pub invariant-loop-chain : goal.invariant-loop-chain
invariant-loop-chain l = IsWalk (job_of l.self) l.walk
