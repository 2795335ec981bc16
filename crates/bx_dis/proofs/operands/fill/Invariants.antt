use Rattle.std.proofs.Common.{◌≡◌, take}
use Rattle.bx_asm.specs.Numbered.{item_of}
use Rattle.bx_dis.proofs.operands.fill.Given as goal

abbrev pub invariant-loop-number : goal.invariant-loop-number
invariant-loop-number l = l.row.items ≡ take l.number (item_of l.item).operands
