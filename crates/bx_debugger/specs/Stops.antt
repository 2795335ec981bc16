-- Where a session stands, and why choices or runs of a process were not made further.
use Rattle.std.specs.Prelude.{ℕ, List, ◌++◌, Option, Some, None, option_map, codes, decimal, length, slice_get}
use Rattle.bx_terms.specs.Kinds.{trap_name}
use Rattle.bx_terms.specs.Printed.{printed, printed_pid}
use Rattle.bx_load.specs.Image.{Loaded}
use Rattle.bx_load.specs.Names.{place_text}
use Rattle.bx_proc.specs.declared.parts.Status.{Status, TheVariants.Ended}
use Rattle.bx_world.specs.Seen.{status_of}
use Rattle.bx_world.specs.Texts.{spelling}
use Rattle.bx_debug.specs.Sessions.{History, world_of}
use Rattle.bx_debug.specs.declared.pauses.Bound.{Bound, TheVariants.Event, TheVariants.Meeting}
use Rattle.bx_debug.specs.declared.pauses.Pause.{Pause, TheVariants.Stopped, TheVariants.Idle, TheVariants.Meets}
use Rattle.bx_debug.specs.declared.stops.Stop.{Stop, TheVariants.Done, TheVariants.Break, TheVariants.NotEnabled, TheVariants.Trapped}
use Rattle.bx_engine.specs.Sources.{Sources}
use Rattle.bx_debugger.specs.Program.{program_of}
use Rattle.bx_debugger.specs.Words.{here_words}

-- how many choices lead there, of how many
abbrev pub standing : History → List ℕ
standing s = codes "at " ++ decimal s.at ++ codes " of " ++ decimal (length s.choices)

abbrev pub stopped_line : History → List ℕ → List ℕ
stopped_line s why = standing s ++ codes ": " ++ why ++ codes "\n"

-- why `go` stopped
abbrev pub stop_words : Loaded → Stop → List ℕ
stop_words image Done = codes "done"
stop_words image (Break p place) = codes "break " ++ printed_pid p ++ codes " " ++ place_text image place
stop_words image (NotEnabled choice) = codes "stopped " ++ spelling choice
stop_words image (Trapped kind p) = codes "trapped " ++ trap_name kind ++ codes " " ++ printed_pid p

-- how a process stands that cannot run
abbrev pub idle_words : List (List ℕ) → Option Status → List ℕ
idle_words texts (Some (Ended reason)) = codes "ended " ++ printed texts reason
idle_words texts status = codes "waits"

-- an event is yet to be run, and what concerns others was
abbrev pub meeting_words : Bound → List ℕ
meeting_words Event = codes "at "
meeting_words Meeting = codes "met "

-- why a process ran no further, in the session behind it
abbrev pub pause_words : Sources → Bound → ℕ → History → Pause → List ℕ
pause_words sources bound p s (Stopped stop) = stop_words s.image stop
pause_words sources bound p s Idle = idle_words s.image.atoms (option_map status_of (slice_get (world_of s).processes p))
pause_words sources bound p s (Meets place) = meeting_words bound ++ here_words (program_of sources s) (Some place)

abbrev pub paused_line : Sources → Bound → ℕ → History × Pause → List ℕ
paused_line sources bound p went = stopped_line went.0 (pause_words sources bound p went.0 went.1)
