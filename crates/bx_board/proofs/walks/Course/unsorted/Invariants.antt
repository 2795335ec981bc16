use Rattle.std.proofs.Common.{◌≡◌, ◌≤◌, vec_len, vec_capacity}
use Rattle.std.specs.List.{All}
use Rattle.bx_board.specs.Walks.{IsEnding, job_of}
use Rattle.bx_board.proofs.walks.Course.unsorted.Given as goal

abbrev pub invariant-loop-number : goal.invariant-loop-number
invariant-loop-number l = record {
  endings : All (IsEnding (job_of l.self)) l.endings.items;
  len : vec_len l.endings ≡ l.number;
  capacity : l.count ≤ vec_capacity l.endings;
}
