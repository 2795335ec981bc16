use Rattle.std.proofs.Common.{◌≡◌, take, drop}
use Rattle.std.specs.Prelude.{None}
use Rattle.bx_listing.specs.Code.{items_of}
use Rattle.bx_asm.specs.Drafts.{Grows}
use Rattle.bx_asm.specs.Limits.{first, register_fault}
use Rattle.bx_asm.proofs.unit.add_items.Given as goal

abbrev pub invariant-loop-number : goal.invariant-loop-number
invariant-loop-number l = Grows l.fn.draft l.draft (take l.number (items_of l.function.items)) × (first register_fault (drop l.number l.function.items) ≡ None)
