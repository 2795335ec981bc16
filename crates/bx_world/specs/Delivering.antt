-- What the first signal from process p to process q makes of q and of the lanes.
-- Source: Erlang Reference Manual, "Processes", "Receiving Exit Signals".
use Rattle.std.specs.Prelude.{ℕ, Option, Some, None, Result, Ok, Err}
use Rattle.bx_terms.specs.Tree.{Tree, atom}
use Rattle.bx_terms.specs.declared.fixed.TheConstants.{NOPROC}
use Rattle.bx_terms.specs.declared.faults.Fault.{Fault, TheVariants.NotEnabled, TheVariants.Memory}
use Rattle.bx_signals.specs.Waiting.{first}
use Rattle.bx_signals.specs.Channels.{waiting}
use Rattle.bx_signals.specs.declared.signal.Signal.{Signal, TheVariants.Link, TheVariants.LinkExit, TheVariants.Exit}
use Rattle.bx_proc.specs.Process.{Process}
use Rattle.bx_world.specs.declared.choices.Choice.TheVariants.{Deliver}
use Rattle.bx_world.specs.declared.lanes.Lanes.{Lanes}
use Rattle.bx_world.specs.Sharing.{telling, hearing}
use Rattle.bx_world.specs.Deeds.{dies, signalled}
use Rattle.bx_world.specs.Asking.{Done, done}

-- q ends, and its links hear of it
abbrev pub ending : ℕ → ℕ → Process → Tree → Lanes → Done
ending p q x reason lanes = done (Deliver p q) lanes (dies x reason)

abbrev pub by_link : ℕ → ℕ → Process → Tree → Lanes → Done
by_link p q x reason lanes = done (Deliver p q) lanes (signalled p x (LinkExit reason))

abbrev pub by_exit : ℕ → ℕ → Process → Tree → Lanes → Done
by_exit p q x reason lanes = done (Deliver p q) lanes (signalled p x (Exit reason))

abbrev pub heard : ℕ → ℕ → Process → Lanes → Option Signal → Result Done Fault
heard p q x lanes None = Err NotEnabled
heard p q x lanes (Some signal) = Ok (done (Deliver p q) lanes (signalled p x signal))

abbrev pub received : ℕ → ℕ → Process → Lanes → Result Done Fault
received p q x lanes = heard p q x lanes (first (waiting lanes.channels (p, q)))

-- where q has ended, a link is answered by an exit signal, and all else is ignored
abbrev pub exited_heard : ℕ → ℕ → Lanes → Option Signal → Result (Lanes × Unit {0}) Fault
exited_heard p q lanes None = Err NotEnabled
exited_heard p q lanes (Some Link) = Ok (hearing (p, q) (telling (q, p) (LinkExit (atom NOPROC.0)) lanes), tt)
exited_heard p q lanes (Some signal) = Ok (hearing (p, q) lanes, tt)

abbrev pub exited_received : ℕ → ℕ → Lanes → Result (Lanes × Unit {0}) Fault
exited_received p q lanes = exited_heard p q lanes (first (waiting lanes.channels (p, q)))

-- to a pid that no process has a signal is lost
abbrev pub lost : ℕ → ℕ → Lanes → Option Signal → Result (Lanes × Unit {0}) Fault
lost p q lanes None = Err NotEnabled
lost p q lanes (Some signal) = Ok (hearing (p, q) lanes, tt)

-- memory ran out before it was known what waits first in a channel: where nothing does, its delivery is not enabled
abbrev pub lacked_for : Option Signal → Fault
lacked_for (Some signal) = Memory
lacked_for None = NotEnabled
