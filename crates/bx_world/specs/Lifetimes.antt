-- What a choice makes of one life among others, and of the lanes.
use Rattle.std.specs.Prelude.{ℕ, List, Option, Some, None, Result, Ok, Err, if◌then◌else◌, is_some, IsTrue, slice_get, slice_set}
use Rattle.bx_terms.specs.Tree.{Tree}
use Rattle.bx_terms.specs.declared.faults.Fault.{Fault, TheVariants.NotEnabled}
use Rattle.bx_load.specs.Image.{Loaded}
use Rattle.bx_signals.specs.Waiting.{first}
use Rattle.bx_signals.specs.Channels.{waiting}
use Rattle.bx_proc.specs.Process.{can_run}
use Rattle.bx_world.specs.declared.lanes.Lanes.{Lanes}
use Rattle.bx_world.specs.declared.turns.Turn.{Turn, TheVariants.Ran, TheVariants.Ended, TheVariants.Trapped, TheVariants.Spawns}
use Rattle.bx_world.specs.World.{Life, Live, Exited}
use Rattle.bx_world.specs.Asking.{Done}
use Rattle.bx_world.specs.Turning.{runs}

-- a life and the lanes, and what was done; of a process that ended the reason alone stays
abbrev pub Lived : Type 0
Lived = (Life × Lanes) × Turn

abbrev pub lived : Done → Lived
lived (w, Ran) = ((Live w.0, w.1), Ran)
lived (w, Ended reason) = ((Exited reason, w.1), Ran)
lived (w, Trapped kind) = ((Live w.0, w.1), Trapped kind)
lived (w, Spawns spawn) = ((Live w.0, w.1), Spawns spawn)

abbrev pub lived_if : Result Done Fault → Result Lived Fault
lived_if (Ok done) = Ok (lived done)
lived_if (Err fault) = Err fault

abbrev pub exited_if : Tree → Result (Lanes × Unit {0}) Fault → Result Lived Fault
exited_if reason (Ok done) = Ok ((Exited reason, done.0), Ran)
exited_if reason (Err fault) = Err fault

-- one instruction of a process that can run
abbrev pub life_run : Loaded → ℕ → Lanes → Life → Result Lived Fault
life_run image p lanes (Live x) = if can_run x then Ok (lived (runs image p lanes x)) else Err NotEnabled
life_run image p lanes (Exited reason) = Err NotEnabled

-- the same among the others
abbrev pub Among : Type 0
Among = (List Life × Lanes) × Turn

abbrev pub put_back : ℕ → List Life → Result Lived Fault → Result Among Fault
put_back p lives (Ok done) = Ok ((slice_set lives p done.0.0, done.0.1), done.1)
put_back p lives (Err fault) = Err fault

abbrev pub at_life : (Life → Result Lived Fault) → ℕ → List Life → Option Life → Result Among Fault
at_life does p lives (Some one) = put_back p lives (does one)
at_life does p lives None = Err NotEnabled

abbrev pub lives_run : Loaded → ℕ → Lanes → List Life → Result Among Fault
lives_run image p lanes lives = at_life (life_run image p lanes) p lives (slice_get lives p)

-- to a pid that no process has a signal is lost
abbrev pub lost_if : List Life → Result (Lanes × Unit {0}) Fault → Result Among Fault
lost_if lives (Ok done) = Ok ((lives, done.0), Ran)
lost_if lives (Err fault) = Err fault

-- a signal waits there
abbrev pub Waits : ℕ → ℕ → Lanes → Type 0
Waits p q lanes = IsTrue (is_some (first (waiting lanes.channels (p, q))))
