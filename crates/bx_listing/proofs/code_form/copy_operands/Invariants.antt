use Rattle.bx_listing.proofs.Known.{◌≡◌, take}
use Rattle.bx_listing.proofs.code_form.copy_operands.Given as goal

abbrev pub invariant-loop-at : goal.invariant-loop-at
invariant-loop-at l = l.copies.items ≡ take l.at l.operands
