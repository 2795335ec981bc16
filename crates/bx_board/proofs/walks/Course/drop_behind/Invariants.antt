use Rattle.std.proofs.Common.{length}
use Rattle.std.specs.List.{All}
use Rattle.bx_board.specs.Jobs.{chain_end}
use Rattle.bx_board.specs.Walks.{EndsSo, job_of}
use Rattle.bx_board.proofs.walks.Course.drop_behind.Given as goal

abbrev pub invariant-loop-last : goal.invariant-loop-last
invariant-loop-last l = All (EndsSo (chain_end (job_of l.self))) l.passed.items

abbrev pub decreases-loop-last : goal.decreases-loop-last
decreases-loop-last l = length l.passed.items
