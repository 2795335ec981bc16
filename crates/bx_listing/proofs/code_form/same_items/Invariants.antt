use Rattle.bx_listing.proofs.Known.{◌≡◌, take, length}
use Rattle.bx_listing.proofs.code_form.same_items.Given as goal

abbrev pub invariant-loop-number : goal.invariant-loop-number
invariant-loop-number l = (length l.one.items ≡ length l.other.items) × (take l.number l.one.items ≡ take l.number l.other.items)
