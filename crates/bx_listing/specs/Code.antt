-- The code form of a listing: module, exports and functions with their items. It is the listing without the lines on which
-- its items stand; what is ignored while a listing is read (attributes, annotations, types of registers, the number of
-- `labels`, the operand of `line`) is in neither.
use Rattle.std.specs.Prelude.{ℕ, List, map, refl}
use Rattle.std.specs.List.{flat_map}
use Rattle.std.specs.Coded.{Coded, code_by, coded×, coded_ℕ, coded_list}
use Rattle.bx_terms.specs.declared.atom_table.AtomId.{AtomId}
use Rattle.bx_listing.specs.declared.code_form.Export.{Export}
use Rattle.bx_listing.specs.Items.{Item, PlacedItem}
use Rattle.bx_listing.specs.ListedCode.{ListedFunction, ListedModule}

-- a function, its items in order
pub record CodeFunction : Type 0 where
  pub name : AtomId
  pub arity : ℕ
  pub entry : ℕ
  pub items : List Item

-- a module, by its name
pub record Code : Type 0 where
  pub name : AtomId
  pub exports : List Export
  pub functions : List CodeFunction

-- a function's items, without their lines
abbrev pub items_of : List PlacedItem → List Item
items_of placed = map (λ p. p.item) placed

abbrev pub function_code_of : ListedFunction → CodeFunction
function_code_of f = record { name = f.name; arity = f.arity; entry = f.entry; items = items_of f.items }

-- the code form of a listing
abbrev pub code : ListedModule → Code
code m = record { name = m.name; exports = m.exports; functions = map function_code_of m.functions }

-- all items of a module, in order: an item's number is its place here, from 0
abbrev pub items : Code → List Item
items c = flat_map (λ f. f.items) c.functions

-- what a proof tells two of them apart by
abbrev pub code_function_code : Coded AtomId → Coded Item → Coded CodeFunction
code_function_code atom item =
    code_by (AtomId × (ℕ × (ℕ × List Item))) (coded× atom (coded× coded_ℕ (coded× coded_ℕ (coded_list item))))
    (λ f. (f.name, (f.arity, (f.entry, f.items))))
    (λ t. record { name = t.0; arity = t.1.0; entry = t.1.1.0; items = t.1.1.1 })
    (λ _. refl)

abbrev pub code_code : Coded AtomId → Coded Export → Coded Item → Coded Code
code_code atom export item =
    code_by (AtomId × (List Export × List CodeFunction)) (coded× atom (coded× (coded_list export) (coded_list (code_function_code atom item))))
    (λ m. (m.name, (m.exports, m.functions)))
    (λ t. record { name = t.0; exports = t.1.0; functions = t.1.1 })
    (λ _. refl)
