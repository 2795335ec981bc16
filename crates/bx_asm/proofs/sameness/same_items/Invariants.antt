use Rattle.std.proofs.Common.{◌≡◌, take, length}
use Rattle.bx_listing.specs.Code.{items}
use Rattle.bx_asm.proofs.sameness.same_items.Given as goal

abbrev pub invariant-loop-number : goal.invariant-loop-number
invariant-loop-number l = (length (items l.one) ≡ length (items l.other)) × (take l.number (items l.one) ≡ take l.number (items l.other))
