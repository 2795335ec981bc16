-- What events put into a channel, and what arrived out of it: each signal by the row of the event that put it.
-- Source: Erlang Reference Manual, "Processes", "Delivery of Signals".
use Rattle.std.specs.Prelude.{◌≡◌, ℕ, ◌+◌, List, [], ◌∷◌, ◌++◌, Some, ◌&&◌, if◌then◌else◌, slice_get}
use Rattle.bx_world.specs.Posting.{same_pair}
use Rattle.bx_events.specs.declared.events.Event.{Event}
use Rattle.bx_events.specs.declared.events.Put.{Put}
use Rattle.bx_events.specs.declared.events.Sent.{Sent}
use Rattle.bx_events.specs.declared.events.What.{What}
use Rattle.bx_events.specs.declared.events.What.TheVariants as whats
use Rattle.bx_events.specs.Pairing.{takes}

-- ---- what was put

-- a signal that process p put in this row
abbrev pub sent_by : ℕ → ℕ → Put → Sent
sent_by p row put = record { from = p; to = put.to; number = put.number; event = row; signal = put.signal }

-- of these those that it put into this channel
abbrev pub put_at : ℕ × ℕ → ℕ → ℕ → List Put → List Sent
put_at pair p row [] = []
put_at pair p row (put ∷ more) = if same_pair pair (p, put.to) then sent_by p row put ∷ put_at pair p row more else put_at pair p row more

-- the first of these events has this row
abbrev pub put_from : ℕ × ℕ → ℕ → List Event → List Sent
put_from pair row [] = []
put_from pair row (event ∷ more) = put_at pair event.actor row event.puts ++ put_from pair (row + 1) more

abbrev pub put_into : ℕ × ℕ → List Event → List Sent
put_into pair events = put_from pair 0 events

-- ---- what arrived

-- a signal that traps waits on
abbrev pub arrived_by : ℕ × ℕ → What → List Sent
arrived_by pair (whats.Arrived sent effect) = if takes effect && same_pair pair (sent.from, sent.to) then sent ∷ [] else []
arrived_by pair what = []

abbrev pub arrived_out : ℕ × ℕ → List Event → List Sent
arrived_out pair [] = []
arrived_out pair (event ∷ more) = arrived_by pair event.what ++ arrived_out pair more

-- ---- what waits

-- of these signals those of this channel
abbrev pub only_in : ℕ × ℕ → List Sent → List Sent
only_in pair [] = []
only_in pair (sent ∷ more) = if same_pair pair (sent.from, sent.to) then sent ∷ only_in pair more else only_in pair more

-- behind these events the signal is the first that waits: there was put what has arrived, then this signal, then others
abbrev pub IsFirst : ℕ × ℕ → List Event → Sent → Type 0
IsFirst pair events sent = (others : List Sent) × (put_into pair events ≡ arrived_out pair events ++ sent ∷ others)

-- one of these events put the signal: the one in the row that the signal names, by its sender; and that is among what it put
pub record IsPut (events : List Event) (sent : Sent) : Type 0 where
  pub event : Event
  pub stands : slice_get events sent.event ≡ Some event
  pub sender : event.actor ≡ sent.from
  pub place : ℕ
  pub puts : slice_get event.puts place ≡ Some (record { to = sent.to; number = sent.number; signal = sent.signal })
