-- What a choice does, as a value: computed from the image, the life of the process that the choice concerns, how many processes there are, and the
-- first signal of the channel that it names; and then applied once.
-- Source: Erlang Reference Manual, "Processes"; traps are this emulator's own.
use Rattle.std.specs.Prelude.{ℕ, List, [], ◌∷◌, ◌++◌, Bool, true, false, Option, Some, None, Result, Ok, Err, length, slice_get, slice_set, if◌then◌else◌}
use Rattle.bx_terms.specs.Tree.{Tree, atom, pid}
use Rattle.bx_terms.specs.declared.fixed.TheConstants.{NOPROC}
use Rattle.bx_terms.specs.declared.faults.Fault.{Fault, TheVariants.NotEnabled}
use Rattle.bx_terms.specs.declared.kinds.Trap.{Trap}
use Rattle.bx_load.specs.Image.{Loaded}
use Rattle.bx_signals.specs.Waiting.{first}
use Rattle.bx_signals.specs.Channels.{Channels, waiting}
use Rattle.bx_signals.specs.declared.signal.Signal.{Signal}
use Rattle.bx_signals.specs.declared.signal.Signal.TheVariants as signals
use Rattle.bx_proc.specs.Process.{Process, can_run, can_expire}
use Rattle.bx_proc.specs.Signals.{expired}
use Rattle.bx_proc.specs.declared.parts.Answer.TheVariants.{Value}
use Rattle.bx_world.specs.declared.choices.Choice.{Choice, TheVariants.Run, TheVariants.Deliver, TheVariants.Expire}
use Rattle.bx_world.specs.declared.requests.SpawnRequest.{SpawnRequest}
use Rattle.bx_world.specs.declared.turns.Turn.{Turn}
use Rattle.bx_world.specs.declared.turns.Turn.TheVariants as turns
use Rattle.bx_world.specs.World.{Life, Live, Exited, State}
use Rattle.bx_world.specs.Enabled.{actor}
use Rattle.bx_world.specs.Sharing.{all_posted, heeded, displayed}
use Rattle.bx_world.specs.Deeds.{Posts, Deed, instruction, past_limits, system_limit, other_if, is_answered, new_child, signalled}

pub record Change : Type 0 where
  -- what the life of the choice's process becomes; none where there is no such process
  pub life : Option Life
  pub child : Option Process
  -- the signals that the process sends, in order, each behind its receiver
  pub posts : Posts
  -- whether the first signal of the channel is taken
  pub takes : Bool
  pub shows : Option Tree

-- a change, or why there is none: a trap; and what is not enabled is neither
abbrev pub Coming : Type 0
Coming = Result (Result Change Trap) Fault

abbrev pub by_deed : Life → Option Process → Deed → Change
by_deed one child deed = record { life = Some one; child = child; posts = deed.posts; takes = deed.takes; shows = deed.shows }

-- of a process that ends the reason alone stays
abbrev pub turned_to : Turn → Option Process → Deed → Result Change Trap
turned_to turns.Ran child deed = Ok (by_deed (Live deed.process) child deed)
turned_to (turns.Ended reason) child deed = Ok (by_deed (Exited reason) child deed)
turned_to (turns.Trapped kind) child deed = Err kind
turned_to (turns.Spawns spawn) child deed = Ok (by_deed (Live deed.process) child deed)

abbrev pub change : Option Process → Deed → Result Change Trap
change child deed = turned_to deed.turn child deed

-- among so many processes
abbrev pub spawned : Loaded → ℕ → ℕ → SpawnRequest → Process → Result Change Trap
spawned image p count spawn x =
    if past_limits spawn count then change None (is_answered image None system_limit x)
    else change (Some (new_child image p spawn)) (is_answered image (other_if spawn.linked count) (Value (pid count)) x)

-- a run may ask for a spawn
abbrev pub run_turn : Turn → Loaded → ℕ → ℕ → Process → Deed → Result Change Trap
run_turn (turns.Spawns spawn) image p count x deed = spawned image p count spawn x
run_turn turn image p count x deed = change None deed

abbrev pub run_change : Loaded → ℕ → ℕ → Process → Result Change Trap
run_change image p count x = run_turn (instruction image p x).turn image p count x (instruction image p x)

-- where the process has ended, a link is answered by an exit signal, and all else is ignored
abbrev pub answers_to : ℕ → Signal → Posts
answers_to p signals.Link = (p, signals.LinkExit (atom NOPROC.0)) ∷ []
answers_to p signal = []

-- to a pid that no process has a signal is lost
abbrev pub signal_change : ℕ → Option Life → Signal → Result Change Trap
signal_change p (Some (Live x)) signal = change None (signalled p x signal)
signal_change p (Some (Exited reason)) signal = Ok (record { life = Some (Exited reason); child = None; posts = answers_to p signal; takes = true; shows = None })
signal_change p None signal = Ok (record { life = None; child = None; posts = []; takes = true; shows = None })

abbrev pub run_coming : Loaded → ℕ → ℕ → Option Life → Coming
run_coming image p count (Some (Live x)) = if can_run x then Ok (run_change image p count x) else Err NotEnabled
run_coming image p count (Some (Exited reason)) = Err NotEnabled
run_coming image p count None = Err NotEnabled

abbrev pub signal_coming : ℕ → Option Life → Option Signal → Coming
signal_coming p one None = Err NotEnabled
signal_coming p one (Some signal) = Ok (signal_change p one signal)

-- the wait of a process is over
abbrev pub expire_coming : Option Life → Coming
expire_coming (Some (Live x)) =
    if can_expire x then Ok (Ok (record { life = Some (Live (expired x)); child = None; posts = []; takes = false; shows = None })) else Err NotEnabled
expire_coming (Some (Exited reason)) = Err NotEnabled
expire_coming None = Err NotEnabled

-- what a choice does, told by the life of its process, the number of processes and the first signal of its channel
abbrev pub change_of : Loaded → Choice → Option Life → ℕ → Option Signal → Coming
change_of image (Run p) one count signal = run_coming image p count one
change_of image (Deliver p q) one count signal = signal_coming p one signal
change_of image (Expire p) one count signal = expire_coming one

-- the first signal of the channel that a choice names
abbrev pub heeds : Choice → Channels Signal → Option Signal
heeds (Run p) channels = None
heeds (Deliver p q) channels = first (waiting channels (p, q))
heeds (Expire p) channels = None

-- what a choice does in a world
abbrev pub coming : Loaded → Choice → State → Coming
coming image choice w = change_of image choice (slice_get w.processes (actor choice)) (length w.processes) (heeds choice w.lanes.channels)

-- ---- a change is applied

abbrev pub with_life : ℕ → Option Life → List Life → List Life
with_life p None lives = lives
with_life p (Some one) lives = slice_set lives p one

abbrev pub with_child : Option Process → List Life → List Life
with_child None lives = lives
with_child (Some child) lives = lives ++ Live child ∷ []

-- the child comes behind the others; what is sent is put before the first signal is taken
abbrev pub apply : Choice → Change → State → State
apply choice made w = record {
  processes = with_life (actor choice) made.life (with_child made.child w.processes);
  lanes = record {
    channels = heeded choice made.takes (all_posted (actor choice) made.posts w.lanes.channels);
    output = displayed (actor choice) made.shows w.lanes.output;
  };
  trap = None;
}

-- a trap halts the world, and changes nothing else; what is not enabled changes nothing
abbrev pub after : Choice → State → Coming → State
after choice w (Ok (Ok made)) = apply choice made w
after choice w (Ok (Err kind)) = record w { trap = Some (kind, actor choice) }
after choice w (Err fault) = w
