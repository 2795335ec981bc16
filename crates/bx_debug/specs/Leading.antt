-- Where choices lead that are enabled, each where it is applied, and how far a walk has come.
use Rattle.std.specs.Prelude.{◌≡◌, ℕ, ◌≤◌, Bool, true, ◌&&◌, List, [], ◌∷◌, ◌++◌, length, take, drop, Option, None, Some}
use Rattle.bx_load.specs.Image.{Loaded}
use Rattle.bx_world.specs.declared.choices.Choice.{Choice}
use Rattle.bx_world.specs.World.{State}
use Rattle.bx_world.specs.Enabled.{can}
use Rattle.bx_world.specs.Choosing.{chosen}
use Rattle.bx_world.specs.Running.{Ended, unchosen}
use Rattle.bx_replay.specs.Courses.{Course}
use Rattle.bx_debug.specs.Going.{stop_before, walked, resumed, unless_stopped}
use Rattle.bx_debug.specs.Places.{PlaceSet}
use Rattle.bx_debug.specs.declared.stops.Stop.{Stop, TheVariants.Done}

abbrev pub led : Loaded → List Choice → State → State
led image [] w = w
led image (choice ∷ more) w = led image more (chosen image choice w)

abbrev pub all_enabled : Loaded → List Choice → State → Bool
all_enabled image [] w = true
all_enabled image (choice ∷ more) w = can w choice && all_enabled image more (chosen image choice w)

-- what a session keeps beside its choices, each of which was applied: the world at its position
pub record IsSession (trail : Course) (at : ℕ) (here : State) : Type 0 where
  pub begins : trail.start ≡ unchosen trail.start.world
  pub within : at ≤ length trail.choices
  pub made : all_enabled trail.image trail.choices trail.start.world ≡ true
  pub shown : here ≡ led trail.image (take at trail.choices) trail.start.world

-- so many choices are applied, and lead here; the walk of all of them goes on from here, unless it is stopped
pub record Leads (image : Loaded) (places : PlaceSet) (choices : List Choice) (from : State) (applied : ℕ) (here : State) (stop : Option Stop) : Type 0 where
  pub within : applied ≤ length choices
  pub made : all_enabled image (take applied choices) from ≡ true
  pub shown : here ≡ led image (take applied choices) from
  pub told : walked image places choices from ≡ resumed (take applied choices) (unless_stopped stop (walked image places (drop applied choices) here))

-- the same of some choices, whatever stands behind them: no more than those are applied, and all of them where nothing stops it
pub record Reaches (image : Loaded) (places : PlaceSet) (choices : List Choice) (from : State) (applied : ℕ) (here : State) (stop : Option Stop) : Type 0 where
  pub within : applied ≤ length choices
  pub whole : stop ≡ None → applied ≡ length choices
  pub leads : (rest : List Choice) → Leads image places (choices ++ rest) from applied here stop

-- where a run has come that applied so many choices and refused none
abbrev pub come : State → ℕ → Ended
come w n = record { world = w; applied = n; refused = None }

-- a walk of no choice, behind so many others
pub record Begins (image : Loaded) (from : State) (at : ℕ) (trail : Course) (here : State) (stop : Stop) : Type 0 where
  pub code : trail.image ≡ image
  pub begins : trail.start ≡ come from at
  pub none : trail.choices ≡ []
  pub shown : here ≡ from
  pub unstopped : stop ≡ Done

-- how far a walk has come: the trail has those that are applied, and the walk of all goes on from here, unless it is stopped
pub record Walks (places : PlaceSet) (choices : List Choice) (trail : Course) (here : State) (stop : Option Stop) : Type 0 where
  pub unrefused : trail.start.refused ≡ None
  pub taken : trail.choices ≡ take (length trail.choices) choices
  pub leads : Leads trail.image places choices trail.start.world (length trail.choices) here stop

-- a walk that is over, behind so many choices: those of the trail were applied, and lead here
pub record Went (image : Loaded) (from : State) (at : ℕ) (trail : Course) (here : State) : Type 0 where
  pub code : trail.image ≡ image
  pub begins : trail.start ≡ come from at
  pub made : all_enabled image trail.choices from ≡ true
  pub shown : here ≡ led image trail.choices from

-- one choice: it is applied, or the world stays as it was and the walk stops
abbrev pub Chooses : Loaded → Choice → State → State → Option Stop → Type 0
Chooses image choice old new None = (stop_before choice old ≡ None) × (new ≡ chosen image choice old)
Chooses image choice old new (Some stop) = (stop_before choice old ≡ Some stop) × (new ≡ old)
