-- The chains of the schedules of a row so far.
use Rattle.std.specs.Prelude.{◌≡◌, ◌≢◌, ◌⊎◌, ℕ, ◌-◌, ◌<◌, ◌≤◌, List, [], ◌++◌, length, take}
use Rattle.bx_world.specs.declared.choices.Choice.{Choice}
use Rattle.bx_plan.specs.declared.plans.Row.{Row}
use Rattle.bx_plan.specs.Chains.{chain_path, end, AreForest, Chained, Owns}
use Rattle.bx_plan.specs.Gathered.{common, placed, row_at}
use Rattle.bx_plan.specs.Planned.{Planned}
use Rattle.bx_plan.specs.Plans.{choices_of}

-- a path along a schedule before a place, or along the one there up to a depth
abbrev pub IsReached : Planned → List Row → ℕ → ℕ → List Choice → Type 0
IsReached plan rows k first path =
    ((i : ℕ) × (i < k) × (i < length rows) × (rest : List Choice) × (placed (choices_of plan) rows i ≡ path ++ rest)) ⊎ ((n : ℕ) × (n ≤ first) × (path ≡ take n (placed (choices_of plan) rows k)))

-- these paths lie on a chain, and no others
pub record Grown (plan : Planned) (rows : List Row) (k first : ℕ) (all : Chained) : Type 0 where
  pub forest : AreForest plan all
  pub owned : (path : List Choice) → path ≢ [] → IsReached plan rows k first path → (c : ℕ) × Owns plan all c path
  pub only : (c : ℕ) (path : List Choice) → Owns plan all c path → IsReached plan rows k first path
  -- the last chain leads as far as that along the schedule there
  pub last : first ≤ common (chain_path plan all (length all.heads - 1)) (placed (choices_of plan) rows k)
  pub long : length all.ends ≡ length plan
  pub ends : (i : ℕ) → i < k → i < length rows → (end all (row_at rows i).line < length all.heads) × (chain_path plan all (end all (row_at rows i).line) ≡ placed (choices_of plan) rows i)
