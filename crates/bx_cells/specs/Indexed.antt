-- Registers that lie in a row by their numbers, seen as a finite map from numbers to what they hold.
use Rattle.std.specs.Prelude.{ℕ, ◌+◌, List, [], ◌∷◌, Option, Some, None, slice_get}
use Rattle.std.specs.Ordering.{nat_cmp}
use Rattle.std.specs.FinMap as map

-- the map of a row whose first register has this number
abbrev pub indexed : {A : Type 0} → ℕ → List (Option A) → map.FinMap nat_cmp A
indexed n [] = map.empty
indexed n (None ∷ cells) = indexed (n + 1) cells
indexed n (Some v ∷ cells) = map.insert (indexed (n + 1) cells) n v

-- those that hold something, by rising number
abbrev pub listed : {A : Type 0} → ℕ → List (Option A) → List (ℕ × A)
listed n [] = []
listed n (None ∷ cells) = listed (n + 1) cells
listed n (Some v ∷ cells) = (n, v) ∷ listed (n + 1) cells

-- what the register at this place of the row holds
abbrev pub held_in : {A : Type 0} → Option (Option A) → Option A
held_in None = None
held_in (Some cell) = cell

abbrev pub cell_at : {A : Type 0} → List (Option A) → ℕ → Option A
cell_at cells n = held_in (slice_get cells n)
