-- Code that is being numbered: what was spelled stays spelled while the tables grow.
use Rattle.std.specs.Prelude.{◌≡◌, ℕ, ◌+◌, List, [], ◌∷◌, ◌++◌, Option, Some, None, map, slice_get, length}
use Rattle.std.specs.List.{flat_map}
use Rattle.bx_listing.specs.declared.items.Operand.{Operand as Spelt}
use Rattle.bx_listing.specs.Items.{Item}
use Rattle.bx_listing.specs.ListedCode.{ListedFunction}
use Rattle.bx_listing.specs.Code.{items_of}
use Rattle.bx_asm.specs.declared.operands.NumberedItem.{NumberedItem}
use Rattle.bx_asm.specs.declared.operands.Operand.{Operand}
use Rattle.bx_asm.specs.declared.unit.Head.{Head}
use Rattle.bx_asm.specs.declared.numbering.Draft.{Draft}
use Rattle.bx_asm.specs.Operands.{Tables, spelled}

-- what stands in the one table stands in the other, at the same number
abbrev pub Extends : {A : Type 0} → List A → List A → Type 0
Extends {A} old new = (k : ℕ) (x : A) → slice_get old k ≡ Some x → slice_get new k ≡ Some x

pub record ExtendsTables (t u : Tables) : Type 0 where
  pub literals : Extends t.literals u.literals
  pub imports : Extends t.imports u.imports

-- each of these operands is in the tables, and the row spells that one
abbrev pub SpellsRow : Tables → List Operand → List Spelt → Type 0
SpellsRow t numbered row = map (spelled t) numbered ≡ map Some row

pub record SpellsItem (t : Tables) (numbered : NumberedItem) (item : Item) : Type 0 where
  pub op : numbered.op ≡ item.op
  pub row : SpellsRow t numbered.operands.items item.operands

-- the numbered items spell these items
abbrev pub Spells : Tables → List NumberedItem → List Item → Type 0
Spells t [] [] = Unit {0}
Spells t (n ∷ ns) (i ∷ is) = SpellsItem t n i × Spells t ns is
Spells t _ _ = ⊥

-- a function's head: how many of the items that follow are its own
abbrev pub head_of : ListedFunction → Head
head_of f = record { name = f.name; arity = f.arity; entry = f.entry; count = length f.items }

abbrev pub tables_of : Draft → Tables
tables_of d = record { literals = d.literals.items; imports = d.imports.keys }

-- these items come behind those that are spelled already
pub record Grows (old new : Draft) (more : List Item) : Type 0 where
  pub spells : (code : List Item) → Spells (tables_of old) old.items.items code → Spells (tables_of new) new.items.items (code ++ more)
  pub length_is : length new.items.items ≡ length old.items.items + length more

-- the items of all functions, in order
abbrev pub all_items : List ListedFunction → List Item
all_items fs = flat_map (λ f. items_of f.items) fs

-- what stands at a number, where there is something
abbrev pub as_list : {A : Type 0} → Option A → List A
as_list (Some x) = x ∷ []
as_list None = []

abbrev pub at_number : {A : Type 0} → ℕ → List A → List A
at_number k xs = as_list (slice_get xs k)
