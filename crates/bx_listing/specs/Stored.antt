-- How a function's items are stored: the operands of all in one row, and each item with its share of them.
use Rattle.std.specs.Prelude.{◌≡◌, ℕ, ◌+◌, ◌≤◌, List, [], ◌∷◌, map, take, drop, length}
use Rattle.std.specs.List.{All, flat_map}
use Rattle.bx_listing.specs.declared.items.Operand.{Operand}
use Rattle.bx_listing.specs.declared.code_form.Stored.{Stored}
use Rattle.bx_listing.specs.Items.{Item, PlacedItem}

abbrev pub stored_item : List Operand → Stored → Item
stored_item os r = record { op = r.op; operands = take r.count (drop r.from os) }

abbrev pub stored_items : List Operand → List Stored → List Item
stored_items os rs = map (stored_item os) rs

abbrev pub IsWithin : List Operand → Stored → Type 0
IsWithin os r = r.from + r.count ≤ length os

-- the operands of all items, in order
abbrev pub operands_in : List Item → List Operand
operands_in is = flat_map (λ i. i.operands) is

-- each item has its share of the row, and together they have all of it
pub record AreStored (os : List Operand) (rs : List Stored) : Type 0 where
  pub within : All (IsWithin os) rs
  pub whole : operands_in (stored_items os rs) ≡ os

-- items with their lines
abbrev pub placed : List ℕ → List Item → List PlacedItem
placed [] is = []
placed (l ∷ ls) [] = []
placed (l ∷ ls) (i ∷ is) = record { line = l; item = i } ∷ placed ls is
