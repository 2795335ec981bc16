-- `trace N`: the last choices before the position, oldest first, each with what it met.
use Rattle.std.specs.Prelude.{ℕ, ◌+◌, List, [], ◌∷◌, ◌++◌, Option, Some, None, Result, Ok, Err, codes, decimal, drop, slice_get, take}
use Rattle.std.specs.Option.{option_map_or}
use Rattle.bx_terms.specs.Options.{◌>>=◌}
use Rattle.bx_terms.specs.declared.faults.Fault.{Fault}
use Rattle.bx_terms.specs.declared.places.Place.{Place}
use Rattle.bx_signals.specs.Channels.{waiting}
use Rattle.bx_signals.specs.Waiting.{first}
use Rattle.bx_load.specs.Image.{Loaded}
use Rattle.bx_world.specs.declared.choices.Choice.{Choice, TheVariants.Run, TheVariants.Deliver, TheVariants.Expire}
use Rattle.bx_world.specs.Choosing.{applied}
use Rattle.bx_world.specs.Seen.{place_in}
use Rattle.bx_world.specs.Texts.{spelling}
use Rattle.bx_world.specs.World.{Life, Live, Exited, State}
use Rattle.bx_debug.specs.Leading.{led}
use Rattle.bx_debug.specs.Sessions.{History, behind}
use Rattle.bx_debugger.specs.Program.{Program}
use Rattle.bx_debugger.specs.Signals.{signal_words}
use Rattle.bx_debugger.specs.Words.{here_words, place_words}

-- where a process goes on when its wait is over
abbrev pub expires_of : Life → Option Place
expires_of (Live process) = process.expires
expires_of (Exited reason) = None

abbrev pub expires_in : ℕ → State → Option Place
expires_in p w = slice_get w.processes p >>= expires_of

-- what a choice meets: a run the item at its process's address, a delivery the signal that waits first, or a dash, and an expiration the
-- address where its process goes on
abbrev pub met_words : Program → Choice → State → List ℕ
met_words program (Run p) w = here_words program (place_in p w)
met_words program (Deliver p q) w = option_map_or (signal_words program.image.atoms) (first (waiting w.lanes.channels (p, q))) (codes "-")
met_words program (Expire p) w = place_words program (expires_in p w)

-- `12 r1 race:31 race.erl:11 ITEM`
abbrev pub trace_line : Program → ℕ → Choice → State → List ℕ
trace_line program n choice w = decimal n ++ codes " " ++ spelling choice ++ codes " " ++ met_words program choice w ++ codes "\n"

-- a choice that is refused changes nothing
abbrev pub world_behind : State → Result (State × Unit {0}) Fault → State
world_behind w (Ok after) = after.0
world_behind w (Err fault) = w

abbrev pub made : Loaded → Choice → State → State
made image choice w = world_behind w (applied image choice w)

-- a line for each choice, of which the first is made in this world and has this number
abbrev pub trace_lines : Program → ℕ → State → List Choice → List ℕ
trace_lines program n w [] = []
trace_lines program n w (choice ∷ more) = trace_line program n choice w ++ trace_lines program (n + 1) (made program.image choice w) more

-- the choices between the first k and the position, counted from 1
abbrev pub trace_answer : Program → ℕ → History → List ℕ
trace_answer program k s =
    trace_lines program (k + 1) (led s.image (take k s.choices) s.start) (drop k (behind s)) ++ codes "end\n"
