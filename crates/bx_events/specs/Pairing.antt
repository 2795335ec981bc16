-- Which event put a signal that arrives or waits: the n-th that is taken out of a channel is the n-th that was put into it.
-- Source: Erlang Reference Manual, "Processes", "Delivery of Signals".
use Rattle.std.specs.Prelude.{ℕ, ◌+◌, List, [], ◌∷◌, ◌++◌, Bool, true, false, ◌&&◌, if◌then◌else◌, length, slice_get, unwrap_or}
use Rattle.bx_signals.specs.declared.signal.Signal.{Signal}
use Rattle.bx_signals.specs.Channels.{Channels, waiting}
use Rattle.bx_world.specs.Posting.{same_pair}
use Rattle.bx_events.specs.declared.events.Effect.{Effect}
use Rattle.bx_events.specs.declared.events.Effect.TheVariants as effects
use Rattle.bx_events.specs.declared.events.Event.{Event}
use Rattle.bx_events.specs.declared.events.Put.{Put}
use Rattle.bx_events.specs.declared.events.Sent.{Sent}
use Rattle.bx_events.specs.declared.events.What.{What}
use Rattle.bx_events.specs.declared.events.What.TheVariants as whats

-- ---- what was put into a channel: for each signal the event that put it

abbrev pub by_puts : ℕ × ℕ → ℕ → ℕ → List Put → List ℕ
by_puts pair p i [] = []
by_puts pair p i (put ∷ more) = if same_pair pair (p, put.to) then i ∷ by_puts pair p i more else by_puts pair p i more

-- the first of these events has this position
abbrev pub senders_from : ℕ × ℕ → ℕ → List Event → List ℕ
senders_from pair i [] = []
senders_from pair i (event ∷ more) = by_puts pair event.actor i event.puts ++ senders_from pair (i + 1) more

abbrev pub senders : ℕ × ℕ → List Event → List ℕ
senders pair events = senders_from pair 0 events

-- ---- what was taken out of it: how many signals arrived

-- a signal that traps waits on
abbrev pub takes : Effect → Bool
takes effects.Traps = false
takes effect = true

abbrev pub one_if : Bool → ℕ
one_if true = 1
one_if false = 0

abbrev pub arrival : ℕ × ℕ → What → ℕ
arrival pair (whats.Arrived signal effect) = one_if (takes effect && same_pair pair (signal.from, signal.to))
arrival pair what = 0

abbrev pub arrivals : ℕ × ℕ → List Event → ℕ
arrivals pair [] = 0
arrivals pair (event ∷ more) = arrival pair event.what + arrivals pair more

-- ---- a signal by where it was put

-- the one that was put into the channel behind n others
abbrev pub sent_behind : ℕ → ℕ × ℕ → List Event → Signal → Sent
sent_behind n pair events signal =
    record { from = pair.0; to = pair.1; number = n + 1; event = unwrap_or (slice_get (senders pair events) n) 0; signal = signal }

-- the first that was not taken
abbrev pub next_sent : ℕ × ℕ → List Event → Signal → Sent
next_sent pair events signal = sent_behind (arrivals pair events) pair events signal

-- those that wait in a channel, of which n others were taken
abbrev pub all_sent : ℕ → ℕ × ℕ → List Event → List Signal → List Sent
all_sent n pair events [] = []
all_sent n pair events (signal ∷ more) = sent_behind n pair events signal ∷ all_sent (n + 1) pair events more

-- those that wait in channels
abbrev pub sent_in : Channels Signal → List Event → List (ℕ × ℕ) → List Sent
sent_in channels events [] = []
sent_in channels events (pair ∷ more) = all_sent (arrivals pair events) pair events (waiting channels pair) ++ sent_in channels events more

-- ---- signals that are put, numbered

abbrev pub numbered : ℕ → ℕ → List Signal → List Put
numbered q n [] = []
numbered q n (signal ∷ more) = record { to = q; number = n + 1; signal = signal } ∷ numbered q (n + 1) more

abbrev pub puts_in : Channels Signal → List Event → List (ℕ × ℕ) → List Put
puts_in channels events [] = []
puts_in channels events (pair ∷ more) = numbered pair.1 (length (senders pair events)) (waiting channels pair) ++ puts_in channels events more
