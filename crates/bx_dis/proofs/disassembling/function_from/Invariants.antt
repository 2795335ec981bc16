use Rattle.std.proofs.Common.{◌≡◌, take, drop, []}
use Rattle.bx_listing.specs.Code.{items}
use Rattle.bx_dis.proofs.disassembling.function_from.Given as goal

abbrev pub invariant-loop-number : goal.invariant-loop-number
invariant-loop-number l = record {
  function : l.function ≡ record { name = l.fn.head.name; arity = l.fn.head.arity; entry = l.fn.head.entry; items = take l.number (drop l.from (items l.unit)) };
  row : l.row.items ≡ [];
}
