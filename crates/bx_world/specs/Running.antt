-- A list of choices in a world: how many were applied, and the one that was refused. Nothing more happens after a trap, nor after the
-- first choice that is not enabled.
use Rattle.std.specs.Prelude.{◌≡◌, ◌<◌, ◌≤◌, IsTrue, ℕ, ◌+◌, List, [], ◌∷◌, replicate, Option, Some, None, Result, Ok, Err, IsOk, IsErr, is_some, ◌||◌, if◌then◌else◌, refl}
use Rattle.std.specs.declared.alloc.AllocError.{AllocError}
use Rattle.std.specs.Coded.{Coded, code_by, coded×, coded_ℕ, coded_option}
use Rattle.bx_terms.specs.declared.faults.Fault.{Fault}
use Rattle.bx_terms.specs.declared.faults.Fault.TheVariants as faults
use Rattle.bx_load.specs.Image.{Loaded}
use Rattle.bx_world.specs.declared.choices.Choice.{Choice}
use Rattle.bx_world.specs.declared.turns.Tried.{Tried, TheVariants.NotEnabled, TheVariants.Memory}
use Rattle.bx_world.specs.World.{State}
use Rattle.bx_world.specs.Enabled.{can}
use Rattle.bx_world.specs.Choosing.{chosen}

pub record Ended : Type 0 where
  pub world : State
  pub applied : ℕ
  pub refused : Option Choice

-- a world in which nothing was chosen yet
abbrev pub unchosen : State → Ended
unchosen w = record { world = w; applied = 0; refused = None }

-- a choice that is enabled is applied, and another is kept as the refused one
abbrev pub tried : Loaded → Choice → Ended → Ended
tried image choice end =
    if can end.world choice
    then record { world = chosen image choice end.world; applied = end.applied + 1; refused = None }
    else record end { refused = Some choice }

-- one choice more, where nothing has ended the run
abbrev pub advanced : Loaded → Choice → Ended → Ended
advanced image choice end = if is_some end.refused || is_some end.world.trap then end else tried image choice end

-- a list of them, in order
abbrev pub ran : Loaded → List Choice → Ended → Ended
ran image [] end = end
ran image (choice ∷ more) end = ran image more (advanced image choice end)

-- what a proof tells two of them apart by
abbrev pub ended_code : Coded State → Coded Choice → Coded Ended
ended_code state choice =
    code_by (State × (ℕ × Option Choice)) (coded× state (coded× coded_ℕ (coded_option choice)))
    (λ e. (e.world, (e.applied, e.refused)))
    (λ t. record { world = t.0; applied = t.1.0; refused = t.1.1 })
    (λ _. refl)

-- memory is taken only for a choice that is applied
abbrev pub AdvanceTakes : Choice → Ended → Type 0
AdvanceTakes choice end = (end.refused ≡ None) × IsTrue (can end.world choice)

-- of many equal choices those before the one that lacks memory are made, and that one takes some
abbrev pub Lacks : Loaded → Choice → ℕ → Ended → Ended → Type 0
Lacks image choice times old new = (n : ℕ) × (n < times) × (new ≡ ran image (replicate n choice) old) × AdvanceTakes choice new

-- many equal choices: all of them, or those before memory runs out
abbrev pub DoesMany : Loaded → Choice → ℕ → Ended → Ended → Result (Unit {0}) Fault → Type 0
DoesMany image choice times old new (Ok done) = new ≡ ran image (replicate times choice) old
DoesMany image choice times old new (Err faults.Memory) = Lacks image choice times old new
DoesMany image choice times old new (Err fault) = ⊥

-- some of them, and how many
abbrev pub DoesSome : Loaded → Choice → ℕ → Ended → Ended → Result ℕ AllocError → Type 0
DoesSome image choice times old new (Ok n) = (0 < n) × (n ≤ times) × (new ≡ ran image (replicate n choice) old)
DoesSome image choice times old new (Err failed) = Lacks image choice times old new

-- what a choice that was tried leaves: it is counted, or kept where it was not enabled
abbrev pub Notes : Choice → Tried → Ended → Ended → Result (Unit {0}) AllocError → Type 0
Notes choice NotEnabled old new answer = IsOk answer × (new ≡ record old { refused = Some choice })
Notes choice Memory old new answer = IsErr answer × (new ≡ old)
Notes choice came old new answer = IsOk answer × (new ≡ record old { applied = old.applied + 1 })
