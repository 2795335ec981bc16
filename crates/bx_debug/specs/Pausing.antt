-- How often a process runs by itself, and why no further.
use Rattle.std.specs.Prelude.{◌≡◌, ℕ, zero, suc, Option, Some, None, option_map, is_some, if◌then◌else◌, replicate}
use Rattle.bx_load.specs.Image.{Loaded}
use Rattle.bx_world.specs.declared.choices.Choice.TheVariants.{Run}
use Rattle.bx_world.specs.Choosing.{chosen}
use Rattle.bx_world.specs.Enabled.{can}
use Rattle.bx_world.specs.World.{State}
use Rattle.bx_terms.specs.declared.places.Place.{Place}
use Rattle.bx_debug.specs.Going.{halted, stop_behind}
use Rattle.bx_debug.specs.Meeting.{event, meeting}
use Rattle.bx_debug.specs.Places.{PlaceSet}
use Rattle.bx_debug.specs.Sessions.{History, gone, world_of}
use Rattle.bx_debug.specs.declared.pauses.Bound.{Bound, TheVariants.Event, TheVariants.Meeting}
use Rattle.bx_debug.specs.declared.pauses.Pause.{Pause, TheVariants.Stopped, TheVariants.Idle, TheVariants.Meets}
use Rattle.bx_debug.specs.declared.stops.Stop.TheVariants.{Done}

abbrev pub else_pause : Option Pause → Option Pause → Option Pause
else_pause (Some pause) other = Some pause
else_pause None other = other

-- it cannot run
abbrev pub idle : ℕ → State → Option Pause
idle p w = if can w (Run p) then None else Some Idle

-- before an event: where the world has trapped, the process stands at a breakpoint, cannot run, or stands at an event
abbrev pub before_event : Loaded → PlaceSet → ℕ → State → Option Pause
before_event image places p w =
    else_pause (option_map Stopped (stop_behind places (Run p) w)) (else_pause (idle p w) (option_map Meets (event image p w)))

-- behind a run that met others there, if it did: where the world has trapped, the process stands at a breakpoint, has met others, or
-- cannot run
abbrev pub behind_meeting : PlaceSet → ℕ → Option Place → State → Option Pause
behind_meeting places p met w =
    else_pause (option_map Stopped (stop_behind places (Run p) w)) (else_pause (option_map Meets met) (idle p w))

-- why it does not run at all: it passes a breakpoint at which it stands where it is to meet others
abbrev pub pause_before : Bound → Loaded → PlaceSet → ℕ → State → Option Pause
pause_before Event image places p w = before_event image places p w
pause_before Meeting image places p w = else_pause (option_map Stopped (halted w.trap)) (idle p w)

-- why it goes no further behind a run that met others there, if it did
abbrev pub pause_behind : Bound → Loaded → PlaceSet → ℕ → Option Place → State → Option Pause
pause_behind Event image places p met w = before_event image places p w
pause_behind Meeting image places p met w = behind_meeting places p met w

-- where so many runs of a process lead
abbrev pub after_runs : Loaded → ℕ → State → ℕ → State
after_runs image p w zero = w
after_runs image p w (suc n) = chosen image (Run p) (after_runs image p w n)

-- why it goes no further behind so many runs
abbrev pub pause_at : Bound → Loaded → PlaceSet → ℕ → State → ℕ → Option Pause
pause_at bound image places p w zero = pause_before bound image places p w
pause_at bound image places p w (suc n) =
    pause_behind bound image places p (meeting image p (after_runs image p w n)) (after_runs image p w (suc n))

-- the least number for which there is a reason, and at most so many
abbrev pub least : (ℕ → Option Pause) → ℕ → ℕ
least why zero = zero
least why (suc most) = if is_some (why zero) then zero else suc (least (λ n. why (suc n)) most)

-- how often it runs
unfoldable pub runs_to : Bound → Loaded → PlaceSet → ℕ → State → ℕ
runs_to bound image places p w = least (pause_at bound image places p w) 100000

abbrev pub or_done : Option Pause → Pause
or_done (Some pause) = pause
or_done None = Stopped Done

-- why no further
abbrev pub pause_of : Bound → Loaded → PlaceSet → ℕ → State → Pause
pause_of bound image places p w = or_done (pause_at bound image places p w (runs_to bound image places p w))

-- a process of a session runs: its runs are choices in order
abbrev pub run_of : Bound → ℕ → History → History × Pause
run_of bound p s = (
  (gone (replicate (runs_to bound s.image s.places p (world_of s)) (Run p)) s).0,
  pause_of bound s.image s.places p (world_of s),
)

-- memory is taken only where it runs
abbrev pub RunTakes : Bound → ℕ → History → Type 0
RunTakes bound p s = pause_before bound s.image s.places p (world_of s) ≡ None
