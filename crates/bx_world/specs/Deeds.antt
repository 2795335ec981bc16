-- What an instruction, or a signal, does at one process: what becomes of the process, and what it sends, displays and takes.
-- Source: module `erlang` of the ERTS Reference Manual; Erlang Reference Manual, "Processes".
use Rattle.std.specs.Prelude.{ℕ, ◌==◌, ◌||◌, List, [], ◌∷◌, Bool, true, false, not, Option, Some, None, length, nat_le, nat_lt, if◌then◌else◌}
use Rattle.bx_terms.specs.Tree.{Tree, atom, pid, tuple, listed, height}
use Rattle.bx_terms.specs.declared.fixed.TheConstants.{TRUE, NORMAL, KILL, KILLED, BADARG, EXIT_TAG, SYSTEM_LIMIT}
use Rattle.bx_terms.specs.declared.kinds.Class.TheVariants.{Error}
use Rattle.bx_terms.specs.declared.kinds.Trap.TheVariants.{TermHeight, BadPlace}
use Rattle.bx_bifs.specs.Kinds.{is_the_atom}
use Rattle.bx_load.specs.Image.{Loaded, export}
use Rattle.bx_signals.specs.declared.signal.Signal.{Signal}
use Rattle.bx_signals.specs.declared.signal.Signal.TheVariants as signals
use Rattle.bx_cells.specs.Links.{among}
use Rattle.bx_proc.specs.Process.{Process, new_process}
use Rattle.bx_proc.specs.Signals.{with_message, with_link, without_link}
use Rattle.bx_proc.specs.Stepping.{attempted, settled, settled_with}
use Rattle.bx_proc.specs.declared.parts.Answer.{Answer, TheVariants.Value, TheVariants.Fault}
use Rattle.bx_proc.specs.declared.parts.Effect.{Effect}
use Rattle.bx_proc.specs.declared.parts.Effect.TheVariants as effects
use Rattle.bx_world.specs.declared.requests.SpawnRequest.{SpawnRequest}
use Rattle.bx_world.specs.declared.requests.Request.{Request}
use Rattle.bx_world.specs.declared.requests.Request.TheVariants as requests
use Rattle.bx_world.specs.declared.turns.Turn.{Turn, TheVariants.Ran, TheVariants.Ended, TheVariants.Trapped, TheVariants.Spawns}
use Rattle.bx_world.specs.Requests.{requested}

-- signals in order, each behind its receiver
abbrev pub Posts : Type 0
Posts = List (ℕ × Signal)

pub record Deed : Type 0 where
  pub process : Process
  pub turn : Turn
  pub posts : Posts
  -- whether the first signal of the channel is taken
  pub takes : Bool
  pub shows : Option Tree

-- nothing is sent, taken or displayed
abbrev pub alone : Process → Turn → Deed
alone x turn = record { process = x; turn = turn; posts = []; takes = false; shows = None }

-- an exit signal to each of these
abbrev pub exits : List ℕ → Tree → Posts
exits [] reason = []
exits (q ∷ more) reason = (q, signals.LinkExit reason) ∷ exits more reason

-- a process ends, and its links hear of it
abbrev pub leaves : Process → Tree → Deed
leaves x reason = record (alone x (Ended reason)) { posts = exits x.links reason }

-- an instruction that asked is done: the process goes on, or it ends
abbrev pub closes : Process × Effect → Deed
closes (x, effects.Ran) = alone x Ran
closes (x, effects.Ended reason) = leaves x reason
closes (x, effects.Trap kind) = alone x (Trapped kind)
closes (x, effects.Send to message) = alone x (Trapped BadPlace)
closes (x, effects.Ask native arguments) = alone x (Trapped BadPlace)

-- a signal is sent first
abbrev pub puts : ℕ → Signal → Deed → Deed
puts q signal deed = record deed { posts = (q, signal) ∷ deed.posts }

-- ---- what a process asks of the world

abbrev pub yes : Answer
yes = Value (atom TRUE.0)

abbrev pub badarg : Answer
badarg = Fault Error (atom BADARG.0)

-- the message that an exit signal from process p becomes
abbrev pub exit_message : ℕ → Tree → Tree
exit_message p reason = tuple (listed (atom EXIT_TAG.0 ∷ pid p ∷ reason ∷ []))

abbrev pub is_kill : Tree → Bool
is_kill = is_the_atom KILL

abbrev pub is_normal : Tree → Bool
is_normal = is_the_atom NORMAL

-- where no term may be so high, there is none
abbrev pub low_enough : Tree → Option Tree
low_enough term = if nat_le (height term) 10000 then Some term else None

-- a link is taken away
abbrev pub unlinked_done : ℕ → Process × Effect → Process × Effect
unlinked_done q done = (without_link q done.0, done.1)

-- a message to oneself is added at once
abbrev pub notes : Loaded → Answer → Process → Option Tree → Deed
notes image answer x None = alone x (Trapped TermHeight)
notes image answer x (Some message) = closes (settled_with image answer message x)

-- exit(self(), Reason): `kill` ends with `killed`; a process that traps exits gets the message; another ends with the reason, also with `normal`
abbrev pub exits_itself : Loaded → ℕ → Tree → Process → Deed
exits_itself image p reason x =
    if is_kill reason then leaves x (atom KILLED.0)
    else if x.trap_exit then notes image yes x (low_enough (exit_message p reason)) else leaves x reason

-- a link to oneself and one that is there are nothing; else the process enters the other into its set, and tells it
abbrev pub links : Loaded → ℕ → ℕ → Process → Deed
links image p q x =
    if (q == p) || among q x.links then closes (settled image yes x) else puts q signals.Link (closes (settled image yes (with_link q x)))

-- a link that is there is taken away, and the other is told
abbrev pub unlinks : Loaded → ℕ → ℕ → Process → Deed
unlinks image p q x =
    if (q == p) || not (among q x.links) then closes (settled image yes x) else puts q signals.Unlink (closes (unlinked_done q (settled image yes x)))

-- a spawn concerns the other processes too, and is left to the world
abbrev pub performs : Loaded → ℕ → Request → Process → Deed
performs image p requests.Refused x = closes (settled image badarg x)
performs image p (requests.Send q message) x =
    if q == p then closes (settled_with image (Value message) message x) else puts q (signals.Message message) (closes (settled image (Value message) x))
performs image p (requests.Exit q reason) x =
    if q == p then exits_itself image p reason x else puts q (signals.Exit reason) (closes (settled image yes x))
performs image p (requests.Link q) x = links image p q x
performs image p (requests.Unlink q) x = unlinks image p q x
performs image p (requests.Display term) x = record (closes (settled image yes x)) { shows = Some term }
performs image p (requests.Spawn spawn) x = alone x (Spawns spawn)

-- one instruction
abbrev pub did : Loaded → ℕ → Process → Process × Effect → Deed
did image p x (y, effects.Ran) = alone y Ran
did image p x (y, effects.Send to message) = performs image p (requests.Send to message) x
did image p x (y, effects.Ask native arguments) = performs image p (requested native arguments) x
did image p x (y, effects.Ended reason) = leaves x reason
did image p x (y, effects.Trap kind) = alone x (Trapped kind)

abbrev pub instruction : Loaded → ℕ → Process → Deed
instruction image p x = did image p x (attempted image p x)

-- ---- a spawn

-- no more than 1,024 processes, those that have ended among them, and no more than 255 arguments
abbrev pub past_limits : SpawnRequest → ℕ → Bool
past_limits spawn count = nat_le 1024 count || nat_lt 255 (length spawn.arguments)

abbrev pub system_limit : Answer
system_limit = Fault Error (atom SYSTEM_LIMIT.0)

abbrev pub linked_to : Option ℕ → Process → Process
linked_to None x = x
linked_to (Some q) x = with_link q x

abbrev pub other_if : Bool → ℕ → Option ℕ
other_if true q = Some q
other_if false q = None

-- a process that asked for a spawn enters its child into its set, where they are linked, and is answered
abbrev pub is_answered : Loaded → Option ℕ → Answer → Process → Deed
is_answered image child answer x = closes (settled image answer (linked_to child x))

-- the child stands at the entry of its function, where its module exports one of that name and that many arguments
abbrev pub new_child : Loaded → ℕ → SpawnRequest → Process
new_child image p spawn = linked_to (other_if spawn.linked p) (new_process (export image spawn.«module» spawn.function (length spawn.arguments)) spawn.arguments)

-- ---- a signal from process p

-- the signal is taken
abbrev pub hears : Process → Turn → Deed
hears x turn = record (alone x turn) { takes = true }

abbrev pub dies : Process → Tree → Deed
dies x reason = record (leaves x reason) { takes = true }

-- an exit signal becomes a message; where that is too high it is a trap
abbrev pub is_told : Process → Process → Option Tree → Deed
is_told old x (Some message) = hears (with_message message x) Ran
is_told old x None = alone old (Trapped TermHeight)

-- an exit signal at a process, which has left its link by then: it becomes a message, or it is `normal` and does nothing, or it ends the process
abbrev pub exit_comes : ℕ → Process → Process → Tree → Deed
exit_comes p old x reason =
    if old.trap_exit then is_told old x (low_enough (exit_message p reason))
    else if is_normal reason then hears x Ran else dies x reason

-- through a link: ignored where there is none. By exit/2: `kill` ends the process with `killed`, whether or not it traps exits
abbrev pub signalled : ℕ → Process → Signal → Deed
signalled p x (signals.Message message) = hears (with_message message x) Ran
signalled p x signals.Link = hears (with_link p x) Ran
signalled p x signals.Unlink = hears (without_link p x) Ran
signalled p x (signals.LinkExit reason) = if among p x.links then exit_comes p x (without_link p x) reason else hears x Ran
signalled p x (signals.Exit reason) = if is_kill reason then dies x (atom KILLED.0) else exit_comes p x x reason
