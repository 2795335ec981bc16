-- Where catch tags stand.
-- Source: The BEAM Book, "Exceptions".
use Rattle.std.specs.Prelude.{◌≡◌, ◌<◌, ℕ, List, ◌∷◌, ◌++◌, Option, Some, slice_get}
use Rattle.std.specs.List.{All}
use Rattle.bx_terms.specs.declared.places.Place.{Place}
use Rattle.bx_cells.specs.declared.values.Value.{Value, TheVariants.Tag}
use Rattle.bx_cells.specs.StackFrame.{StackFrame}

-- the register of this number holds a tag with that address
abbrev pub TagAt : List (Option Value) → ℕ → Place → Type 0
TagAt cells y place = slice_get cells y ≡ Some (Some (Tag place))

abbrev pub HasNoTag : List (Option Value) → Type 0
HasNoTag cells = (y : ℕ) (place : Place) → TagAt cells y place → ⊥

-- a register holds a tag with that address, and no lower one holds a tag
pub record IsLowestTag (cells : List (Option Value)) (place : Place) : Type 0 where
  pub y : ℕ
  pub holds : TagAt cells y place
  pub none_lower : (k : ℕ) (other : Place) → k < y → TagAt cells k other → ⊥

-- of a stack, these frames are left once a fault was caught at that address
pub record IsCaught (frames kept : List StackFrame) (place : Place) : Type 0 where
  pub above : List StackFrame
  pub frame : StackFrame
  pub below : List StackFrame
  pub stack : frames ≡ above ++ frame ∷ below
  pub left : kept ≡ frame ∷ below
  pub none_above : All (λ f. HasNoTag f.cells) above
  pub lowest : IsLowestTag frame.cells place
