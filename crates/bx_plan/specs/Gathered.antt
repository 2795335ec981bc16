-- An order of schedules in which those stand together that begin alike.
use Rattle.std.specs.Prelude.{◌≡◌, ℕ, zero, suc, ◌<◌, ◌≤◌, if◌then◌else◌, List, [], ◌∷◌, Option, None, Some, length, slice_index_or}
use Rattle.std.specs.declared.cmp.Ordering.{Ordering, TheVariants.Less, TheVariants.Equal, TheVariants.Greater}
use Rattle.std.specs.Ordering.{nat_cmp, ordering_then}
use Rattle.std.specs.Cmp.Lexicographic.{slice_cmp}
use Rattle.bx_world.specs.declared.choices.Choice.{Choice, TheVariants.Run, TheVariants.Deliver, TheVariants.Expire}
use Rattle.bx_plan.specs.declared.plans.Row.{Row}
use Rattle.bx_plan.specs.Nodes.{choice_eq}

-- runs by pid come first, then deliveries by pair, then expirations by pid
abbrev pub rank : Choice → ℕ × ℕ × ℕ
rank (Run p) = (0, p, 0)
rank (Deliver p q) = (1, p, q)
rank (Expire p) = (2, p, 0)

abbrev pub choice_cmp : Choice → Choice → Ordering
choice_cmp a b = ordering_then (nat_cmp (rank a).0 (rank b).0) (ordering_then (nat_cmp (rank a).1 (rank b).1) (nat_cmp (rank a).2 (rank b).2))

-- one that goes on comes behind one that ends
abbrev pub next_cmp : Option Choice → Option Choice → Ordering
next_cmp None None = Equal
next_cmp None (Some b) = Less
next_cmp (Some a) None = Greater
next_cmp (Some a) (Some b) = choice_cmp a b

abbrev pub choices_cmp : List Choice → List Choice → Ordering
choices_cmp = slice_cmp choice_cmp

-- how many choices both begin with alike
abbrev pub common : List Choice → List Choice → ℕ
common [] ys = 0
common (x ∷ xs) [] = 0
common (x ∷ xs) (y ∷ ys) = if choice_eq x y then suc (common xs ys) else 0

abbrev pub no_row : Row
no_row = record { line = 0; common = 0 }

abbrev pub row_at : List Row → ℕ → Row
row_at rows k = slice_index_or rows k no_row

-- the schedule at a place of the row
abbrev pub placed : List (List Choice) → List Row → ℕ → List Choice
placed schedules rows k = slice_index_or schedules (row_at rows k).line []

-- how many choices the schedule at a place begins with as the one at the place before it does
abbrev pub common_before : List (List Choice) → List Row → ℕ → ℕ
common_before schedules rows zero = 0
common_before schedules rows (suc k) = common (placed schedules rows k) (placed schedules rows (suc k))

-- each schedule has a place, and what two of them begin with alike, all that stand between them begin with too
pub record AreRows (schedules : List (List Choice)) (rows : List Row) : Type 0 where
  pub within : (k : ℕ) → k < length rows → (row_at rows k).line < length schedules
  pub all : (i : ℕ) → i < length schedules → (k : ℕ) × (k < length rows) × ((row_at rows k).line ≡ i)
  pub gathered : (i j k : ℕ) → i ≤ j → j ≤ k → k < length rows
      → (common (placed schedules rows i) (placed schedules rows k) ≤ common (placed schedules rows i) (placed schedules rows j))
      × (common (placed schedules rows i) (placed schedules rows k) ≤ common (placed schedules rows j) (placed schedules rows k))
  pub commons : (k : ℕ) → k < length rows → (row_at rows k).common ≡ common_before schedules rows k
