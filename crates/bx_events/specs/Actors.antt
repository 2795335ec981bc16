-- The process that a choice concerns, before and behind the choice.
use Rattle.std.specs.Prelude.{ℕ, ◌+◌, Bool, true, false, Option, Some, None, if◌then◌else◌, length, nat_lt, slice_get}
use Rattle.bx_terms.specs.Tree.{Tree}
use Rattle.bx_terms.specs.declared.kinds.Trap.{Trap}
use Rattle.bx_mail.specs.Mail.{current}
use Rattle.bx_signals.specs.Channels.{waiting}
use Rattle.bx_signals.specs.Waiting.{first}
use Rattle.bx_signals.specs.declared.signal.Signal.{Signal}
use Rattle.bx_signals.specs.declared.signal.Signal.TheVariants as signals
use Rattle.bx_proc.specs.declared.parts.Status.{Status}
use Rattle.bx_proc.specs.declared.parts.Status.TheVariants as statuses
use Rattle.bx_world.specs.World.{Life, Live, Exited, State}
use Rattle.bx_world.specs.declared.choices.Choice.{Choice, TheVariants.Run, TheVariants.Deliver, TheVariants.Expire}
use Rattle.bx_world.specs.Enabled.{actor}
use Rattle.bx_world.specs.Seen.{place_in}
use Rattle.bx_events.specs.declared.actors.Before.{Before}
use Rattle.bx_events.specs.declared.actors.Met.{Met}
use Rattle.bx_events.specs.declared.actors.Met.TheVariants as meets
use Rattle.bx_events.specs.declared.events.Effect.{Effect}
use Rattle.bx_events.specs.declared.events.Effect.TheVariants as effects
use Rattle.bx_events.specs.declared.events.Stands.{Stands}
use Rattle.bx_events.specs.declared.events.Stands.TheVariants as stand
use Rattle.bx_events.specs.declared.events.What.{What}
use Rattle.bx_events.specs.declared.events.What.TheVariants as whats

-- how many messages a process has, where it lives
abbrev pub mail_of : Option Life → Option ℕ
mail_of (Some (Live x)) = Some (length x.mailbox.passed + length x.mailbox.rest)
mail_of (Some (Exited reason)) = None
mail_of None = None

-- the message that it would take next
abbrev pub next_of : Option Life → Option Tree
next_of (Some (Live x)) = current x.mailbox
next_of (Some (Exited reason)) = None
next_of None = None

abbrev pub is_less : Option ℕ → Option ℕ → Bool
is_less (Some m) (Some n) = nat_lt m n
is_less (Some m) None = false
is_less None other = false

-- ---- how it stands

abbrev pub stands_by : Status → Stands
stands_by statuses.Ready = stand.Goes
stands_by statuses.Waiting = stand.Waits
stands_by (statuses.Ended reason) = stand.Ended reason

abbrev pub stands_as : Option Life → Stands
stands_as (Some (Live x)) = stands_by x.status
stands_as (Some (Exited reason)) = stand.Ended reason
stands_as None = stand.Absent

abbrev pub stands_unless : Option (Trap × ℕ) → Option Life → Stands
stands_unless (Some trap) one = stand.Trapped trap.0
stands_unless None one = stands_as one

abbrev pub stands_in : ℕ → State → Stands
stands_in p w = stands_unless w.trap (slice_get w.processes p)

-- ---- what it did

-- a run that leaves fewer messages has taken one
abbrev pub run_was : Bool → Option Tree → What
run_was true (Some message) = whats.Took message
run_was true None = whats.Ran
run_was false next = whats.Ran

-- ---- what a signal did at it

-- an exit signal ends its receiver, or leaves one message more, or does nothing
abbrev pub exit_effect : Bool → Stands → Effect
exit_effect more (stand.Ended reason) = effects.Ends
exit_effect more stands = if more then effects.Told else effects.Dropped

abbrev pub live_effect : Signal → Bool → Stands → Effect
live_effect (signals.Message message) more stands = effects.Added
live_effect signals.Link more stands = effects.Linked
live_effect signals.Unlink more stands = effects.Unlinked
live_effect (signals.LinkExit reason) more stands = exit_effect more stands
live_effect (signals.Exit reason) more stands = exit_effect more stands

-- where its receiver had ended
abbrev pub late_effect : Signal → Effect
late_effect signals.Link = effects.Answered
late_effect signal = effects.Lost

-- by how its receiver stood before and stands behind
abbrev pub effect_at : Stands → Signal → Bool → Stands → Effect
effect_at (stand.Ended reason) signal more behind = late_effect signal
effect_at stand.Absent signal more behind = effects.Lost
effect_at before signal more behind = live_effect signal more behind

abbrev pub effect_of : Stands → Signal → Bool → Stands → Effect
effect_of before signal more (stand.Trapped kind) = effects.Traps
effect_of before signal more behind = effect_at before signal more behind

-- ---- what is known before a choice is made

abbrev pub heard : ℕ → Option Signal → Met
heard p None = meets.Expires
heard p (Some signal) = meets.Hears p signal

abbrev pub met_by : Choice → State → Met
met_by (Run p) w = meets.Runs (next_of (slice_get w.processes p))
met_by (Deliver p q) w = heard p (first (waiting w.lanes.channels (p, q)))
met_by (Expire p) w = meets.Expires

abbrev pub before_of : Choice → State → Before
before_of choice w = record {
  place = place_in (actor choice) w;
  stands = stands_in (actor choice) w;
  mail = mail_of (slice_get w.processes (actor choice));
  met = met_by choice w;
  count = length w.processes;
}
