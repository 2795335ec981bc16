-- Runs: a choice, and how many times it is made in a row.
use Rattle.std.specs.Prelude.{◌≡◌, ◌≢◌, ℕ, ◌+◌, ◌-◌, ◌<◌, List, [], ◌∷◌, ◌++◌, Option, None, Some, replicate, slice_get}
use Rattle.bx_world.specs.declared.choices.Choice.{Choice}
use Rattle.bx_plan.specs.declared.schedules.Run.{Run}

-- the choices that runs make in order, each as often as its run says
abbrev pub spread_runs : List Run → List Choice
spread_runs [] = []
spread_runs (run ∷ runs) = replicate run.times run.choice ++ spread_runs runs

-- some choices are taken, each of them this one
abbrev pub GoesOn : Choice → List Choice → List Choice → Type 0
GoesOn choice old new = (times : ℕ) × (0 < times) × (old ≡ replicate times choice ++ new)

-- the first choice is taken, with all that equal it in a row behind it
abbrev pub NextRun : List Choice → List Choice → Option Run → Type 0
NextRun old new None = (old ≡ []) × (new ≡ [])
NextRun old new (Some run) = (0 < run.times) × (old ≡ replicate run.times run.choice ++ new) × (slice_get new 0 ≢ Some run.choice)

-- the choices at p and p + 1 differ, and neither is the one before both or the one behind both
pub record AreLoose (choices : List Choice) (p : ℕ) : Type 0 where
  pub apart : slice_get choices p ≢ slice_get choices (p + 1)
  pub before : 0 < p → (slice_get choices (p - 1) ≢ slice_get choices p) × (slice_get choices (p - 1) ≢ slice_get choices (p + 1))
  pub behind : (slice_get choices (p + 2) ≢ slice_get choices p) × (slice_get choices (p + 2) ≢ slice_get choices (p + 1))
