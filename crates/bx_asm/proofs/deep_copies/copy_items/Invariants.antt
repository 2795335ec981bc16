use Rattle.std.proofs.Common.{◌≡◌, map, take}
use Rattle.bx_asm.specs.Operands.{Tables}
use Rattle.bx_asm.specs.Spelling.{spelled_item}
use Rattle.bx_asm.proofs.deep_copies.copy_items.Given as goal

abbrev pub invariant-loop-at : goal.invariant-loop-at
invariant-loop-at l = (t : Tables) → map (spelled_item t) l.copies.items ≡ map (spelled_item t) (take l.at l.items)
