use Rattle.std.proofs.Common.{◌≡◌, ◌+◌, ◌++◌, drop}
use Rattle.bx_listing.specs.Code.{items}
use Rattle.bx_asm.specs.Unit.{functions, total}
use Rattle.bx_dis.proofs.disassembling.functions_of.Given as goal

abbrev pub invariant-loop-head : goal.invariant-loop-head
invariant-loop-head l = record {
  made : l.functions.items ++ functions (drop l.head-index l.heads) (drop l.from (items l.unit)) ≡ l.unit.functions;
  from : l.from + total (drop l.head-index l.heads) ≡ total l.heads;
}
