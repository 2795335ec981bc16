use Rattle.bx_listing.proofs.Known.{◌≡◌, ◌++◌, drop, string_bytes, slots_text}
use Rattle.bx_listing.proofs.item_texts.push_slots.Given as goal

-- what is written and what is left to write make the whole
abbrev pub invariant-loop-slot : goal.invariant-loop-slot
invariant-loop-slot l =
    string_bytes l.out ++ slots_text l.atoms (drop l.slot-index l.slots) l.left ≡ string_bytes l.fn.out ++ slots_text l.atoms l.slots l.operands
