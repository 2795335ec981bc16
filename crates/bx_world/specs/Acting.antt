-- What is asked of one process beside its runs, in its life and among the others.
use Rattle.std.specs.Prelude.{ℕ, List, Option, Some, None, Result, Ok, Err, if◌then◌else◌, IsTrue, slice_get}
use Rattle.bx_terms.specs.Tree.{pid}
use Rattle.bx_terms.specs.declared.faults.Fault.{Fault, TheVariants.NotEnabled}
use Rattle.bx_load.specs.Image.{Loaded}
use Rattle.bx_signals.specs.Waiting.{first}
use Rattle.bx_signals.specs.Channels.{waiting}
use Rattle.bx_proc.specs.Process.{Process, can_expire}
use Rattle.bx_proc.specs.Signals.{expired}
use Rattle.bx_proc.specs.declared.parts.Answer.{Answer, TheVariants.Value}
use Rattle.bx_world.specs.declared.choices.Choice.TheVariants.{Run}
use Rattle.bx_world.specs.declared.acts.Act.{Act, TheVariants.Hear, TheVariants.Expire, TheVariants.Spawned, TheVariants.Unspawned}
use Rattle.bx_world.specs.declared.lanes.Lanes.{Lanes}
use Rattle.bx_world.specs.declared.turns.Turn.TheVariants as turns
use Rattle.bx_world.specs.World.{Life, Live, Exited}
use Rattle.bx_world.specs.Asking.{Done, whole, done}
use Rattle.bx_world.specs.Delivering.{received, exited_received, lost}
use Rattle.bx_world.specs.Enabled.{may_at, may_expire}
use Rattle.bx_world.specs.Lifetimes.{Lived, Among, lived_if, exited_if, put_back, lost_if, Waits}
use Rattle.bx_world.specs.Deeds.{other_if, system_limit, is_answered}

-- the parent enters its child into its set, where they are linked, and is answered
abbrev pub answering : Loaded → ℕ → Option ℕ → Answer → Process → Lanes → Done
answering image p child answer x lanes = whole (x, lanes) (done (Run p) lanes (is_answered image child answer x))

-- a wait that can expire is over
abbrev pub expiring : Lanes → Process → Result Done Fault
expiring lanes x = if can_expire x then Ok ((expired x, lanes), turns.Ran) else Err NotEnabled

-- of a process
abbrev pub process_acted : Loaded → ℕ → Act → Lanes → Process → Result Done Fault
process_acted image p (Hear q) lanes x = received q p x lanes
process_acted image p Expire lanes x = expiring lanes x
process_acted image p (Spawned child linked) lanes x = Ok (answering image p (other_if linked child) (Value (pid child)) x lanes)
process_acted image p Unspawned lanes x = Ok (answering image p None system_limit x lanes)

-- where the process has ended, and where there is none of that pid, a signal is all that something can be done about
abbrev pub exited_acted : Act → ℕ → Lanes → Result (Lanes × Unit {0}) Fault
exited_acted (Hear q) p lanes = exited_received q p lanes
exited_acted act p lanes = Err NotEnabled

abbrev pub missed : Act → ℕ → Lanes → Result (Lanes × Unit {0}) Fault
missed (Hear q) p lanes = lost q p lanes (first (waiting lanes.channels (q, p)))
missed act p lanes = Err NotEnabled

-- of a life
abbrev pub life_acted : Loaded → ℕ → Act → Lanes → Life → Result Lived Fault
life_acted image p act lanes (Live x) = lived_if (process_acted image p act lanes x)
life_acted image p act lanes (Exited reason) = exited_if reason (exited_acted act p lanes)

-- among the others
abbrev pub acted_at : Loaded → ℕ → Act → Lanes → List Life → Option Life → Result Among Fault
acted_at image p act lanes lives (Some one) = put_back p lives (life_acted image p act lanes one)
acted_at image p act lanes lives None = lost_if lives (missed act p lanes)

abbrev pub lives_acted : Loaded → ℕ → Act → Lanes → List Life → Result Among Fault
lives_acted image p act lanes lives = acted_at image p act lanes lives (slice_get lives p)

-- where memory may run out: where what is asked for is enabled
abbrev pub MayLack : Act → ℕ → Lanes → Option Life → Type 0
MayLack (Hear q) p lanes o = Waits q p lanes
MayLack Expire p lanes o = IsTrue (may_at may_expire o)
MayLack (Spawned child linked) p lanes o = Unit {0}
MayLack Unspawned p lanes o = Unit {0}
