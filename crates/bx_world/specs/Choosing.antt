-- What a choice makes of a world.
use Rattle.std.specs.Prelude.{ℕ, List, [], Option, Some, None, Result, Ok, Err, is_some, if◌then◌else◌}
use Rattle.std.specs.FinMap as map
use Rattle.bx_terms.specs.declared.faults.Fault.{Fault, TheVariants.NotEnabled, TheVariants.Halted}
use Rattle.bx_terms.specs.declared.kinds.Trap.{Trap}
use Rattle.bx_load.specs.Image.{Loaded}
use Rattle.bx_signals.specs.Channels.{Channels, put}
use Rattle.bx_signals.specs.declared.signal.Signal.{Signal}
use Rattle.bx_world.specs.declared.acts.Act.TheVariants as acts
use Rattle.bx_world.specs.declared.choices.Choice.{Choice, TheVariants.Run, TheVariants.Deliver, TheVariants.Expire}
use Rattle.bx_world.specs.declared.lanes.Lanes.{Lanes}
use Rattle.bx_world.specs.declared.turns.Turn.{Turn}
use Rattle.bx_world.specs.declared.turns.Turn.TheVariants as turns
use Rattle.bx_world.specs.World.{Life, State}
use Rattle.bx_world.specs.Enabled.{can}
use Rattle.bx_world.specs.Lifetimes.{Among, lives_run}
use Rattle.bx_world.specs.Acting.{lives_acted}
use Rattle.bx_world.specs.Spawning.{lives_spawned}
use Rattle.bx_world.specs.Changes.{heeds, coming, after}

-- a run may ask for a spawn
abbrev pub spawned_too : Loaded → ℕ → Result Among Fault → Result Among Fault
spawned_too image p (Ok (w, turns.Spawns spawn)) = lives_spawned image p spawn w.1 w.0
spawned_too image p answer = answer

-- a choice among the processes, beside the lanes
abbrev pub made : Loaded → Choice → List Life → Lanes → Result Among Fault
made image (Run p) lives lanes = spawned_too image p (lives_run image p lanes lives)
made image (Deliver p q) lives lanes = lives_acted image q (acts.Hear p) lanes lives
made image (Expire p) lives lanes = lives_acted image p acts.Expire lanes lives

abbrev pub trap_of : ℕ → Turn → Option (Trap × ℕ)
trap_of p (turns.Trapped kind) = Some (kind, p)
trap_of p turn = None

abbrev pub world_of : ℕ → Among → State
world_of p (w, turn) = record { processes = w.0; lanes = w.1; trap = trap_of p turn }

-- an enabled choice is applied; any other changes nothing
abbrev pub chosen : Loaded → Choice → State → State
chosen image choice w = after choice w (coming image choice w)

-- why a choice is refused: the world has trapped, else the choice is not enabled
abbrev pub refusal : State → Choice → Option Fault
refusal w choice = if is_some w.trap then Some Halted else if can w choice then None else Some NotEnabled

abbrev pub unless_refused : Option Fault → State → Result (State × Unit {0}) Fault
unless_refused None w = Ok (w, tt)
unless_refused (Some fault) w = Err fault

abbrev pub applied : Loaded → Choice → State → Result (State × Unit {0}) Fault
applied image choice w = unless_refused (refusal w choice) (chosen image choice w)

-- ---- a choice by itself

-- nothing waits but the signal that the choice takes
abbrev pub put_alone : Choice → Option Signal → Channels Signal
put_alone (Deliver p q) (Some signal) = put (p, q) signal map.empty
put_alone (Deliver p q) None = map.empty
put_alone (Run p) signal = map.empty
put_alone (Expire p) signal = map.empty

-- and nothing was displayed
abbrev pub only : Choice → Lanes → Lanes
only choice lanes = record { channels = put_alone choice (heeds choice lanes.channels); output = [] }

abbrev pub bare : Choice → State → State
bare choice w = record w { lanes = only choice w.lanes }

abbrev pub shown_if : Option Fault → State → Result State Fault
shown_if None v = Ok v
shown_if (Some fault) v = Err fault

-- what a choice does in a world, applied where nothing else is on its way
abbrev pub shown_alone : Loaded → Choice → State → Result State Fault
shown_alone image choice w = shown_if (refusal w choice) (after choice (bare choice w) (coming image choice w))
