use Rattle.std.proofs.Common.{◌≡◌, ◌≤◌, None, replicate, vec_len, vec_capacity}
use Rattle.bx_board.proofs.walks.Course.untold.Given as goal

abbrev pub invariant-loop-number : goal.invariant-loop-number
invariant-loop-number l = record {
  items : l.told.items ≡ replicate l._number None;
  len : vec_len l.told ≡ l._number;
  capacity : l.count ≤ vec_capacity l.told;
}
