-- A module's code as it is listed, with the line on which each item begins.
use Rattle.std.specs.Prelude.{ℕ, List, refl}
use Rattle.std.specs.Coded.{Coded, code_by, coded×, coded_ℕ, coded_list}
use Rattle.bx_terms.specs.declared.atom_table.AtomId.{AtomId}
use Rattle.bx_listing.specs.Items.{PlacedItem}
use Rattle.bx_listing.specs.declared.code_form.Export.{Export}

-- a function, its items in order
pub record ListedFunction : Type 0 where
  pub name : AtomId
  pub arity : ℕ
  pub entry : ℕ
  pub items : List PlacedItem

-- a module, by its name
pub record ListedModule : Type 0 where
  pub name : AtomId
  pub exports : List Export
  pub functions : List ListedFunction

-- both are stored as the tuples of their fields: what a proof tells two of them apart by
abbrev pub function_code : Coded AtomId → Coded PlacedItem → Coded ListedFunction
function_code atom item =
    code_by (AtomId × (ℕ × (ℕ × List PlacedItem))) (coded× atom (coded× coded_ℕ (coded× coded_ℕ (coded_list item))))
    (λ f. (f.name, (f.arity, (f.entry, f.items))))
    (λ t. record { name = t.0; arity = t.1.0; entry = t.1.1.0; items = t.1.1.1 })
    (λ _. refl)

abbrev pub module_code : Coded AtomId → Coded Export → Coded PlacedItem → Coded ListedModule
module_code atom export item =
    code_by (AtomId × (List Export × List ListedFunction)) (coded× atom (coded× (coded_list export) (coded_list (function_code atom item))))
    (λ m. (m.name, (m.exports, m.functions)))
    (λ t. record { name = t.0; exports = t.1.0; functions = t.1.1 })
    (λ _. refl)
