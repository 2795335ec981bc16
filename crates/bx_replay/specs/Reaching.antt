-- How far a choice may be brought forward past those that stand before it.
use Rattle.std.specs.Prelude.{◌≡◌, ℕ, ◌+◌, ◌-◌, ◌<◌, ◌≤◌, [], ◌∷◌, Bool, true, false, Option, Some, None, slice_index_or}
use Rattle.bx_world.specs.declared.choices.Choice.{Choice}
use Rattle.bx_world.specs.Running.{ran}
use Rattle.bx_replay.specs.Courses.{Course, reached}
use Rattle.bx_replay.specs.Exchanges.{MayExchange}
use Rattle.bx_replay.specs.Moving.{brought, IndependentAt, IsExchanged, Passes}
use Rattle.bx_replay.specs.declared.trails.rows.Reach.{Reach}

-- the choice may pass the one at i, if it can be made behind it
abbrev pub PassesAt : Choice → Course → ℕ → Type 0
PassesAt choice c i = Passes c.image (reached i c) (slice_index_or c.choices i choice) choice

-- and the two are independent there
abbrev pub FreeAt : Choice → Course → ℕ → Type 0
FreeAt choice c i = IndependentAt c.image (reached i c) (slice_index_or c.choices i choice) choice

-- from `rest` on it may pass each up to `last`, and where that is not the first of them, not the one before
pub record IsFreeFrom (choice : Choice) (first last : ℕ) (c : Course) (rest : ℕ) : Type 0 where
  pub order : first ≤ rest
  pub within : rest ≤ last
  pub free : (i : ℕ) → rest ≤ i → i < last → PassesAt choice c i
  pub stuck : first < rest → FreeAt choice c (rest - 1) → ⊥

-- the choice that stands at `past`, the one before it among those that it passes
pub record IsReach (first past : ℕ) (c : Course) (choice : Choice) (reach : Reach) : Type 0 where
  pub free : IsFreeFrom choice first (past - 1) c reach.rest
  pub last : FreeAt choice c (past - 1)
  pub between : reach.between ≡ ran c.image (choice ∷ []) (reached (past - 1) c)

abbrev pub Reaches : ℕ → ℕ → Course → Option Reach → Type 0
Reaches first past c None = (choice : Choice) → choice ≡ slice_index_or c.choices past choice → FreeAt choice c (past - 1) → ⊥
Reaches first past c (Some reach) = (choice : Choice) → choice ≡ slice_index_or c.choices past choice → IsReach first past c choice reach

-- a choice was brought forward by exchanges; where it does not go on, the next exchange may not be made
pub record BringsPast (from to : ℕ) (old new : Course) (at : ℕ) (more : Bool) : Type 0 where
  pub reach : to ≤ at
  pub start : at ≤ from
  pub choices : new.choices ≡ brought from at old.choices
  pub exchanges : IsExchanged (from + 1) old new
  pub steps : (i : ℕ) → at ≤ i → i < from → MayExchange i (record old { choices = brought from (i + 1) old.choices })
  pub on : more ≡ true → at < from
  pub stuck : more ≡ false → MayExchange (at - 1) new → ⊥
