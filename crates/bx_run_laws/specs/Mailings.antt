-- What choices do to the mailbox of one process: the messages that come into it, and the process's own runs of `remove_message`,
-- `loop_rec_end` and `timeout`.
-- Source: The BEAM Book, "The Mailbox"; Erlang Reference Manual, "Receive" and "Processes", "Receiving Exit Signals".
use Rattle.std.specs.Prelude.{ℕ, ◌==◌, List, [], ◌∷◌, ◌++◌, Option, Some, None, Ok, Err, slice_get, if◌then◌else◌}
use Rattle.bx_terms.specs.Tree.{Tree}
use Rattle.bx_terms.specs.declared.places.Place.{Place}
use Rattle.bx_ops.specs.declared.opcode.Op.{Op}
use Rattle.bx_ops.specs.declared.opcode.Op.TheVariants as ops
use Rattle.bx_listing.specs.Items.{Item}
use Rattle.bx_load.specs.Image.{Loaded}
use Rattle.bx_load.specs.Numbering.{numbered_at}
use Rattle.bx_mail.specs.History.{Operation, Add, Pass, Take, Reset}
use Rattle.bx_signals.specs.declared.signal.Signal.{Signal}
use Rattle.bx_signals.specs.declared.signal.Signal.TheVariants as signals
use Rattle.bx_cells.specs.Links.{among}
use Rattle.bx_proc.specs.Process.{Process}
use Rattle.bx_proc.specs.Stepping.{attempted}
use Rattle.bx_proc.specs.declared.parts.Effect.{Effect}
use Rattle.bx_proc.specs.declared.parts.Effect.TheVariants as effects
use Rattle.bx_world.specs.declared.choices.Choice.{Choice, TheVariants.Run, TheVariants.Deliver}
use Rattle.bx_world.specs.declared.requests.Request.{Request}
use Rattle.bx_world.specs.declared.requests.Request.TheVariants as requests
use Rattle.bx_world.specs.World.{Life, Live, State}
use Rattle.bx_world.specs.Enabled.{can, actor}
use Rattle.bx_world.specs.Deeds.{exit_message, is_kill}
use Rattle.bx_world.specs.Entering.{request_in}
use Rattle.bx_world.specs.Changes.{Coming, heeds, coming}
use Rattle.bx_world.specs.Posting.{behind}

-- the opcode of the instruction that stands at a place
abbrev pub op_of : Option Item → Option Op
op_of None = None
op_of (Some item) = Some item.op

abbrev pub op_at : Loaded → Option Place → Option Op
op_at image None = None
op_at image (Some here) = op_of (numbered_at image here)

-- an instruction that concerns its process alone
abbrev pub by_op : Option Op → List Operation
by_op (Some ops.RemoveMessage) = Take ∷ []
by_op (Some ops.LoopRecEnd) = Pass ∷ []
by_op (Some ops.Timeout) = Reset ∷ []
by_op op = []

-- an exit signal from process p becomes a message where its receiver traps exits
abbrev pub by_exit : ℕ → Tree → Process → List Operation
by_exit p reason x = if x.trap_exit then Add (exit_message p reason) ∷ [] else []

-- but `kill` of exit/2 does not
abbrev pub unless_killed : ℕ → Tree → Process → List Operation
unless_killed p reason x = if is_kill reason then [] else by_exit p reason x

-- what process p asks of the world: a message, or exit/2, to itself
abbrev pub by_request : ℕ → Process → Option Request → List Operation
by_request p x (Some (requests.Send q message)) = if q == p then Add message ∷ [] else []
by_request p x (Some (requests.Exit q reason)) = if q == p then unless_killed p reason x else []
by_request p x request = []

abbrev pub by_effect : Loaded → ℕ → Process → Effect → List Operation
by_effect image p x effects.Ran = by_op (op_at image x.place)
by_effect image p x effect = by_request p x (request_in effect)

-- a run of process p
abbrev pub by_run : Loaded → ℕ → Process → List Operation
by_run image p x = by_effect image p x (attempted image p x).1

-- a signal from process p; an exit signal through a link is ignored where there is none
abbrev pub by_signal : ℕ → Process → Signal → List Operation
by_signal p x (signals.Message message) = Add message ∷ []
by_signal p x (signals.LinkExit reason) = if among p x.links then by_exit p reason x else []
by_signal p x (signals.Exit reason) = unless_killed p reason x
by_signal p x signals.Link = []
by_signal p x signals.Unlink = []

-- a choice, by the life of its process and the first signal of its channel
abbrev pub by_choice : Loaded → Choice → Option Life → Option Signal → List Operation
by_choice image (Run p) (Some (Live x)) signal = by_run image p x
by_choice image (Deliver p q) (Some (Live x)) (Some signal) = by_signal p x signal
by_choice image choice one signal = []

-- a trap does nothing
abbrev pub unless_trap : Coming → List Operation → List Operation
unless_trap (Ok (Ok made)) operations = operations
unless_trap (Ok (Err kind)) operations = []
unless_trap (Err fault) operations = []

-- what a choice does to the mailbox of process p; one that is not enabled does nothing
abbrev pub mailed : Loaded → Choice → State → ℕ → List Operation
mailed image choice w p =
    if can w choice
    then if p == actor choice then unless_trap (coming image choice w) (by_choice image choice (slice_get w.processes (actor choice)) (heeds choice w.lanes.channels)) else []
    else []

-- the same over choices in a row
abbrev pub all_mailed : Loaded → List Choice → State → ℕ → List Operation
all_mailed image [] w p = []
all_mailed image (choice ∷ more) w p = mailed image choice w p ++ all_mailed image more (behind image choice w) p
