use Rattle.std.proofs.Common.{◌≡◌, ◌≤◌, vec_len, vec_capacity}
use Rattle.std.specs.List.{All}
use Rattle.bx_board.specs.Reported.{IsShown}
use Rattle.bx_board.proofs.reports.Shown.many.Given as goal

abbrev pub invariant-loop-next : goal.invariant-loop-next
invariant-loop-next l = record {
  told : All (IsShown l.end) l.told.items;
  len : vec_len l.told ≡ l._next;
  capacity : l.count ≤ vec_capacity l.told;
}
