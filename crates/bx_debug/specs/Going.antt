-- How far choices are applied in order: up to the first that stops it.
use Rattle.std.specs.Prelude.{ℕ, List, [], ◌∷◌, ◌++◌, Option, Some, None, if◌then◌else◌}
use Rattle.bx_terms.specs.declared.kinds.Trap.{Trap}
use Rattle.bx_terms.specs.declared.places.Place.{Place}
use Rattle.bx_load.specs.Image.{Loaded}
use Rattle.bx_world.specs.declared.choices.Choice.{Choice, TheVariants.Run}
use Rattle.bx_world.specs.World.{State}
use Rattle.bx_world.specs.Enabled.{can}
use Rattle.bx_world.specs.Choosing.{chosen}
use Rattle.bx_world.specs.Seen.{place_in}
use Rattle.bx_debug.specs.Places.{PlaceSet, is_set}
use Rattle.bx_debug.specs.declared.stops.Stop.{Stop, TheVariants.Done, TheVariants.Break, TheVariants.NotEnabled, TheVariants.Trapped}

abbrev pub else_stop : Option Stop → Option Stop → Option Stop
else_stop (Some stop) other = Some stop
else_stop None other = other

-- the world has trapped
abbrev pub halted : Option (Trap × ℕ) → Option Stop
halted None = None
halted (Some trap) = Some (Trapped trap.0 trap.1)

-- why a run went no further: a choice was refused, or the world has trapped
abbrev pub ended_by : Option Choice → Option (Trap × ℕ) → Option Stop
ended_by (Some choice) trap = Some (NotEnabled choice)
ended_by None trap = halted trap

-- why a choice is not applied: the world has trapped, else the choice is not enabled
abbrev pub stop_before : Choice → State → Option Stop
stop_before choice w = else_stop (halted w.trap) (if can w choice then None else Some (NotEnabled choice))

-- why none of the choices is applied, if none is
abbrev pub stop_at_once : List Choice → State → Option Stop
stop_at_once [] w = Some Done
stop_at_once (choice ∷ more) w = stop_before choice w

-- where a process stands, if it is at a breakpoint
abbrev pub break_at : PlaceSet → ℕ → Option Place → Option Stop
break_at places p None = None
break_at places p (Some place) = if is_set places place then Some (Break p place) else None

-- a run that left its process, not ended, at a breakpoint; no other choice is a run
abbrev pub break_behind : PlaceSet → Choice → State → Option Stop
break_behind places (Run p) w = break_at places p (place_in p w)
break_behind places _ w = None

-- why it stops behind a choice that was applied: a trap goes before a break
abbrev pub stop_behind : PlaceSet → Choice → State → Option Stop
stop_behind places choice w = else_stop (halted w.trap) (break_behind places choice w)

-- choices that are applied, and why no more are
abbrev pub unless_stopped : Option Stop → List Choice × Stop → List Choice × Stop
unless_stopped (Some stop) more = ([], stop)
unless_stopped None more = more

-- choices that were applied before those of a walk
abbrev pub resumed : List Choice → List Choice × Stop → List Choice × Stop
resumed before more = (before ++ more.0, more.1)

abbrev pub behind_choice : Choice → List Choice × Stop → List Choice × Stop
behind_choice choice more = (choice ∷ more.0, more.1)

abbrev pub walked : Loaded → PlaceSet → List Choice → State → List Choice × Stop
walked image places [] w = ([], Done)
walked image places (choice ∷ more) w =
    let next = chosen image choice w in
    unless_stopped (stop_before choice w)
    (behind_choice choice (unless_stopped (stop_behind places choice next) (walked image places more next)))
