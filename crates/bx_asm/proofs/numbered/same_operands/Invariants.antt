use Rattle.std.proofs.Common.{◌≡◌, take}
use Rattle.bx_asm.specs.Numbered.{item_of}
use Rattle.bx_asm.proofs.numbered.same_operands.Given as goal

abbrev pub invariant-loop-number : goal.invariant-loop-number
invariant-loop-number l = take l.number (item_of l.one).operands ≡ take l.number (item_of l.other).operands
