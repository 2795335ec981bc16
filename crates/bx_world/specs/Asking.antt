-- What an instruction that has a part in others makes of its process and of the lanes, all of it or nothing.
-- Source: module `erlang` of the ERTS Reference Manual; Erlang Reference Manual, "Processes".
use Rattle.std.specs.Prelude.{ℕ, Bool, true, false, Option, IsSome, Result, Ok, Err}
use Rattle.bx_terms.specs.Tree.{Tree}
use Rattle.bx_terms.specs.declared.faults.Fault.{Fault}
use Rattle.bx_load.specs.Image.{Loaded}
use Rattle.bx_signals.specs.declared.signal.Signal.{Signal}
use Rattle.bx_proc.specs.Process.{Process}
use Rattle.bx_proc.specs.Stepping.{settled}
use Rattle.bx_proc.specs.declared.parts.Answer.{Answer}
use Rattle.bx_proc.specs.declared.parts.Effect.{Effect}
use Rattle.bx_world.specs.declared.choices.Choice.{Choice, TheVariants.Run}
use Rattle.bx_world.specs.declared.lanes.Lanes.{Lanes}
use Rattle.bx_world.specs.declared.requests.Request.{Request}
use Rattle.bx_world.specs.declared.turns.Turn.{Turn, TheVariants.Ran, TheVariants.Ended, TheVariants.Trapped, TheVariants.Spawns}
use Rattle.bx_world.specs.Sharing.{onto}
use Rattle.bx_world.specs.Deeds.{Deed, closes, leaves, puts, exit_message, is_kill, low_enough, exits_itself, links, unlinks, performs}

-- a process and the lanes, and what was done
abbrev pub Done : Type 0
Done = (Process × Lanes) × Turn

-- a trap changes nothing
abbrev pub whole : Process × Lanes → Done → Done
whole before (after, Ran) = (after, Ran)
whole before (after, Ended reason) = (after, Ended reason)
whole before (after, Trapped kind) = (before, Trapped kind)
whole before (after, Spawns spawn) = (after, Spawns spawn)

-- nothing was done
abbrev pub is_undone : Result Turn Fault → Bool
is_undone (Ok (Trapped kind)) = true
is_undone (Ok turn) = false
is_undone (Err fault) = true

-- a deed done beside the lanes
abbrev pub done : Choice → Lanes → Deed → Done
done choice lanes deed = ((deed.process, onto choice lanes deed), deed.turn)

-- an instruction that asked is done: the process goes on, or it ends and its links hear of it behind what the instruction itself sent
abbrev pub closing : ℕ → Lanes → Process × Effect → Done
closing p lanes said = done (Run p) lanes (closes said)

-- a process ends
abbrev pub leaving : ℕ → Process → Lanes → Tree → Done
leaving p x lanes reason = done (Run p) lanes (leaves x reason)

-- a signal to another process, and then the answer
abbrev pub sending : Loaded → ℕ → ℕ → Signal → Answer → Process → Lanes → Done
sending image p q signal answer x lanes = done (Run p) lanes (puts q signal (closes (settled image answer x)))

abbrev pub exiting_oneself : Loaded → ℕ → Tree → Process → Lanes → Done
exiting_oneself image p reason x lanes = done (Run p) lanes (exits_itself image p reason x)

-- memory is wanted there for no message that is too high
abbrev pub TakesUnless : Bool → Bool → Option Tree → Type 0
TakesUnless true traps message = Unit {0}
TakesUnless false true message = IsSome message
TakesUnless false false message = Unit {0}

abbrev pub ExitTakes : ℕ → Tree → Bool → Type 0
ExitTakes p reason traps = TakesUnless (is_kill reason) traps (low_enough (exit_message p reason))

abbrev pub linking : Loaded → ℕ → ℕ → Process → Lanes → Done
linking image p q x lanes = done (Run p) lanes (links image p q x)

abbrev pub unlinking : Loaded → ℕ → ℕ → Process → Lanes → Done
unlinking image p q x lanes = done (Run p) lanes (unlinks image p q x)

-- all of it or nothing
abbrev pub done_by : Loaded → ℕ → Request → Process → Lanes → Done
done_by image p request x lanes = whole (x, lanes) (done (Run p) lanes (performs image p request x))
