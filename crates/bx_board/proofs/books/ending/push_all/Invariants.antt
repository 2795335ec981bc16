use Rattle.std.proofs.Common.{◌≡◌, ◌+◌, ◌++◌, take, vec_len, vec_capacity}
use Rattle.bx_board.proofs.books.ending.push_all.Given as goal

abbrev pub invariant-loop-chain : goal.invariant-loop-chain
invariant-loop-chain l = record {
  items : l.ready.items ≡ l.initial.ready.items ++ take l.chain-index l.chains;
  len : vec_len l.ready ≡ vec_len l.initial.ready + l.chain-index;
  capacity : vec_capacity l.ready ≡ vec_capacity l.initial.ready;
}
