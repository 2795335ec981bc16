-- What each line of a debugger is answered, and what it makes of the session.
use Rattle.std.specs.Prelude.{◌≡◌, ℕ, ◌+◌, nat_lt, Bool, false, ◌||◌, if◌then◌else◌, List, [], ◌∷◌, ◌++◌, Option, Some, None, Result, Ok, Err, bytes_eq, length, codes, decimal, slice_get, ◌-◌}
use Rattle.bx_terms.specs.Refusals.{refusal}
use Rattle.bx_terms.specs.declared.faults.Fault.{Fault, TheVariants.BadCommand, TheVariants.BeforeStart, TheVariants.Memory, TheVariants.TooLong}
use Rattle.bx_load.specs.Image.{Loaded}
use Rattle.bx_world.specs.{Seen.seen, Texts.outcome_lines}
use Rattle.bx_world.specs.declared.choices.Choice.{Choice}
use Rattle.bx_world.specs.World.{Life}
use Rattle.bx_debug.specs.Sessions.{History, behind, world_of, stepped, back, forward, gone, with_break, without_break}
use Rattle.bx_debug.specs.{Exchanging.swap_of, Pausing.run_of, Tidying.tidy_of, Tidying.undo_of}
use Rattle.bx_debug.specs.declared.pauses.Bound.{Bound, TheVariants.Event, TheVariants.Meeting}
use Rattle.bx_debug.specs.declared.stops.Stop.{Stop}
use Rattle.bx_engine.specs.PlanLines.{plan_line}
use Rattle.bx_engine.specs.Sources.{Sources}
use Rattle.bx_debugger.specs.declared.commands.Command.{Command}
use Rattle.bx_debugger.specs.declared.commands.Command.TheVariants.{Step, Back, Forward, Go, Until, Run, Swap, Tidy, Undo, Break, Clear, Show, Where, Look, Signals, Open, Items, Trace, Plan, Help}
use Rattle.bx_debugger.specs.{Commands.ordered_by, Functions.list_answer, Help.help_answer, Look.look_answer, Open.open_answer}
use Rattle.bx_debugger.specs.{Signals.signals_answer, Trace.trace_answer, Where.where_answer}
use Rattle.bx_debugger.specs.Program.{Program, program_of}
use Rattle.bx_debugger.specs.Stops.{paused_line, standing, stop_words, stopped_line}

-- a call that moves the session and its definition; where memory runs out, nothing is said
abbrev pub Moves : History → History → Result (Unit {0}) Fault → Result (History × Unit {0}) Fault → Type 0
Moves old new (Ok done) said = said ≡ Ok (new, done)
Moves old new (Err Memory) said = Unit {0}
Moves old new (Err fault) said = (said ≡ Err fault) × (new ≡ old)

-- a refusal by number and name, and the line that was refused: `refused R22 BeforeStart line 5`
abbrev pub refused_text : ℕ → Option (ℕ × List ℕ) → List ℕ
refused_text n None = []
refused_text n (Some title) = codes "refused R" ++ decimal title.0 ++ codes " " ++ title.1 ++ codes " line " ++ decimal n ++ codes "\n"

abbrev pub refused_line : ℕ → Fault → List ℕ
refused_line n fault = refused_text n (refusal fault)

-- a move of the session: where it stands then, or why it is refused
abbrev pub moved : ℕ → History → Result (History × Unit {0}) Fault → List ℕ × History
moved n s (Ok after) = (standing after.0 ++ codes "\n", after.0)
moved n s (Err fault) = (refused_line n fault, s)

abbrev pub went_line : History × Stop → List ℕ
went_line went = stopped_line went.0 (stop_words went.0.image went.1)

-- a process that is not there is refused
abbrev pub ran : Sources → ℕ → Bound → ℕ → History → Option Life → List ℕ × History
ran sources n bound p s None = (refused_line n (BadCommand n), s)
ran sources n bound p s (Some life) = (paused_line sources bound p (run_of bound p s), (run_of bound p s).0)

-- a process that is not there is refused
abbrev pub looked : ℕ → Program → ℕ → Option Life → List ℕ
looked n program p None = refused_line n (BadCommand n)
looked n program p (Some life) = look_answer program p life

-- the last choices before the position, of which there must be so many
abbrev pub traced : ℕ → Program → ℕ → History → List ℕ
traced n program count s = if nat_lt s.at count then refused_line n BeforeStart else trace_answer program (s.at - count) s

-- the choices as a line of a plan, which takes 100,000 at most
abbrev pub planned : ℕ → List ℕ → List Choice → List ℕ
planned n name choices =
    if nat_lt 100000 (length choices) then refused_line n (TooLong n)
    else plan_line name choices ++ codes "\n"

-- the answer to a command on line n, and the session behind it
abbrev pub replied : Sources → ℕ → Command → History → List ℕ × History
replied sources n (Step choice) s = moved n s (stepped choice s)
replied sources n (Back count) s = moved n s (back count s)
replied sources n (Forward count) s = moved n s (forward count s)
replied sources n (Go choices) s = (went_line (gone choices s), (gone choices s).0)
replied sources n (Until p) s = ran sources n Event p s (slice_get (world_of s).processes p)
replied sources n (Run p) s = ran sources n Meeting p s (slice_get (world_of s).processes p)
replied sources n (Swap number) s = moved n s (swap_of number s)
replied sources n Tidy s = moved n s (Ok (tidy_of s, tt))
replied sources n (Undo number) s = moved n s (undo_of number s)
replied sources n (Break place) s = (codes "ok\n", with_break place s)
replied sources n (Clear place) s = (codes "ok\n", without_break place s)
replied sources n Show s = (outcome_lines s.image.atoms s.at None (seen (world_of s)), s)
replied sources n Where s = (where_answer (program_of sources s) (world_of s).processes, s)
replied sources n (Look p) s = (looked n (program_of sources s) p (slice_get (world_of s).processes p), s)
replied sources n Signals s = (signals_answer s.image.atoms (world_of s).lanes.channels, s)
replied sources n Open s = (open_answer (program_of sources s) (world_of s), s)
replied sources n (Items first past) s = (list_answer (program_of sources s) first.«module» first.item past, s)
replied sources n (Trace count) s = (traced n (program_of sources s) count s, s)
replied sources n (Plan name) s = (planned n name (behind s), s)
replied sources n Help s = (help_answer, s)

-- a line that spells no command is refused
abbrev pub ordered_so : Sources → ℕ → Option Command → History → List ℕ × History
ordered_so sources n None s = (refused_line n (BadCommand n), s)
ordered_so sources n (Some order) s = replied sources n order s

-- what a line is answered over code whose items stand there, and the session behind it
abbrev pub answered : Sources → ℕ → List ℕ → History → List ℕ × History
answered sources n line s = ordered_so sources n (ordered_by s.image line) s

-- the line that ends a session; it is answered nothing, and nothing behind it counts
abbrev pub is_quit : List ℕ → Bool
is_quit line = bytes_eq line (codes "quit")

abbrev pub has_quit : List (List ℕ) → Bool
has_quit [] = false
has_quit (line ∷ more) = is_quit line || has_quit more

-- the answers to the lines from line n on
abbrev pub answers : Sources → ℕ → List (List ℕ) → History → List ℕ
answers sources n [] s = []
answers sources n (line ∷ more) s =
    if is_quit line then [] else (answered sources n line s).0 ++ answers sources (n + 1) more (answered sources n line s).1

-- what lines from line n on, none of which quits, make of the session
abbrev pub after_lines : Sources → ℕ → List (List ℕ) → History → History
after_lines sources n [] s = s
after_lines sources n (line ∷ more) s = after_lines sources (n + 1) more (answered sources n line s).1
