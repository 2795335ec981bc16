use Rattle.bx_listing.proofs.Known.{◌≡◌, ◌++◌, drop, string_bytes, flat_map, item_text}
use Rattle.bx_listing.proofs.writing.push_items.Given as goal

-- what is written and what is left to write make the whole
abbrev pub invariant-loop-place : goal.invariant-loop-place
invariant-loop-place l =
    string_bytes l.out ++ flat_map (item_text l.atoms) (drop l.place l.function.items) ≡ string_bytes l.fn.out ++ flat_map (item_text l.atoms) l.function.items
