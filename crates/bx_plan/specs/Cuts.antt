-- Depths at which chains end, as they are found from the last schedule of a row to the first.
use Rattle.std.specs.Prelude.{◌≡◌, ◌⊎◌, ℕ, zero, suc, ◌+◌, ◌<◌, ◌≤◌, nat_lt, if◌then◌else◌, List, [], ◌∷◌, ◌++◌, length}
use Rattle.bx_world.specs.declared.choices.Choice.{Choice}
use Rattle.bx_plan.specs.declared.plans.Row.{Row}
use Rattle.bx_plan.specs.Gathered.{common, placed, row_at}

-- depths that rise from one on
abbrev pub Rise : ℕ → List ℕ → Type 0
Rise depth [] = Unit {0}
Rise depth (mark ∷ marks) = (depth < mark) × Rise mark marks

-- the last of them, or that one
abbrev pub deepest : ℕ → List ℕ → ℕ
deepest depth [] = depth
deepest depth (mark ∷ marks) = deepest mark marks

-- with one more, where it is below all others
abbrev pub marked : List ℕ → ℕ → List ℕ
marked marks depth = if nat_lt (deepest 0 marks) depth then marks ++ depth ∷ [] else marks

-- a length was marked; then the marks below a depth were taken off, and stand before what stood there; and then the depth was marked
pub record IsCutBy (common length : ℕ) (marks cuts next done : List ℕ) : Type 0 where
  pub kept : List ℕ
  pub taken : List ℕ
  pub all : marked marks length ≡ kept ++ taken
  pub below : deepest 0 kept ≤ common
  pub above : Rise common taken
  pub after : next ≡ marked kept common
  pub order : done ≡ taken ++ cuts

-- where the chains of the schedule at a place end, from a depth on: where it ends, and where those behind it part from it
abbrev pub AreCuts : List (List Choice) → List Row → ℕ → ℕ → List ℕ → Type 0
AreCuts schedules rows k first [] = first ≡ length (placed schedules rows k)
AreCuts schedules rows k first (cut ∷ cuts) =
    (first < cut) × ((cut ≡ length (placed schedules rows k)) ⊎ ((j : ℕ) × (k < j) × (j < length rows) × (common (placed schedules rows j) (placed schedules rows k) ≡ cut)))
    × ((j : ℕ) → k < j → j < length rows → first < common (placed schedules rows j) (placed schedules rows k) → common (placed schedules rows j) (placed schedules rows k) < cut → ⊥)
    × AreCuts schedules rows k cut cuts

-- and of those at so many places from that one on
abbrev pub AllCuts : List (List Choice) → List Row → ℕ → ℕ → List ℕ → Type 0
AllCuts schedules rows zero k all = all ≡ []
AllCuts schedules rows (suc m) k all =
    (cuts : List ℕ) × (rest : List ℕ) × AreCuts schedules rows k (row_at rows k).common cuts × AllCuts schedules rows m (k + 1) rest × (all ≡ cuts ++ rest)
