-- The classes by which a drawing's style paints what it shows.
use Rattle.std.specs.Prelude.{ℕ, List, ◌++◌, Option, Some, None, codes, if◌then◌else◌}
use Rattle.bx_terms.specs.Tree.{Tree}
use Rattle.bx_terms.specs.declared.fixed.TheConstants.{NORMAL}
use Rattle.bx_bifs.specs.Kinds.{is_the_atom}
use Rattle.bx_signals.specs.declared.signal.Signal.{Signal, TheVariants.Message}
use Rattle.bx_proc.specs.declared.parts.Status.{Status, TheVariants.Ended}
use Rattle.bx_events.specs.declared.events.{Event.Event, Stands.Stands, Stands.TheVariants.Trapped, What.What, What.TheVariants.Arrived}
use Rattle.bx_events.specs.declared.events.Effect.TheVariants.{Added, Ends}

-- the arrow of a message, and of a link, an unlink or an exit
abbrev pub arrow_class : Signal → List ℕ
arrow_class (Message term) = codes "message"
arrow_class signal = codes "signal"

-- the arrow of one that waits
abbrev pub waiting_class : Signal → List ℕ
waiting_class signal = arrow_class signal ++ codes " waiting"

-- a trap, which goes before all else, is marked; so is a signal that ends its receiver
abbrev pub said_class : Stands → Option Tree → What → List ℕ
said_class (Trapped kind) shown what = codes "bad"
said_class stands (Some term) what = codes "shown"
said_class stands None (Arrived sent Added) = codes "term"
said_class stands None (Arrived sent Ends) = codes "bad"
said_class stands None (Arrived sent effect) = codes "name"
said_class stands None what = codes "place"

abbrev pub event_class : Event → List ℕ
event_class event = said_class event.stands event.shown event.what

-- a process that ended with another reason than `normal` is marked
abbrev pub status_class : Status → List ℕ
status_class (Ended reason) = if is_the_atom NORMAL reason then codes "status" else codes "bad status"
status_class status = codes "status"
