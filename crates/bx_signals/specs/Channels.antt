-- Channels: the signals that wait between two processes, by their pids. A channel without signals has no key.
-- Source: Erlang Reference Manual, "Processes", "Delivery of Signals".
use Rattle.std.specs.Prelude.{ℕ, List, [], ◌∷◌, ◌++◌, Option, Some, None}
use Rattle.std.specs.declared.cmp.Ordering.{Ordering}
use Rattle.std.specs.Ordering.{nat_cmp, on, then_cmp}
use Rattle.std.specs.FinMap as map
use Rattle.bx_signals.specs.Waiting.{rest, front}

-- pairs rise by their first number, then by their second
abbrev pub pair_cmp : ℕ × ℕ → ℕ × ℕ → Ordering
pair_cmp = then_cmp (on (λ r. r.0) nat_cmp) (on (λ r. r.1) nat_cmp)

-- by a pair of pids the first signal and those behind it
abbrev pub Channels : Type 0 → Type 0
Channels S = map.FinMap pair_cmp (S × List S)

abbrev pub in_order : {S : Type 0} → Option (S × List S) → List S
in_order None = []
in_order (Some signals) = signals.0 ∷ signals.1

-- what was put into the channel from p to q and is not delivered yet
abbrev pub waiting : {S : Type 0} → Channels S → ℕ × ℕ → List S
waiting channels pair = in_order (map.get channels pair)

abbrev pub with_waiting : {S : Type 0} → ℕ × ℕ → List S → Channels S → Channels S
with_waiting pair [] channels = map.remove channels pair
with_waiting pair (signal ∷ more) channels = map.insert channels pair (signal, more)

-- a signal is put behind those that wait
abbrev pub put : {S : Type 0} → ℕ × ℕ → S → Channels S → Channels S
put pair signal channels = with_waiting pair (waiting channels pair ++ signal ∷ []) channels

-- the first is taken
abbrev pub taken : {S : Type 0} → ℕ × ℕ → Channels S → Channels S
taken pair channels = with_waiting pair (rest (waiting channels pair)) channels

-- the last is taken back
abbrev pub taken_back : {S : Type 0} → ℕ × ℕ → Channels S → Channels S
taken_back pair channels = with_waiting pair (front (waiting channels pair)) channels

-- the same signal is put to each of these
abbrev pub put_to_all : {S : Type 0} → ℕ → List ℕ → S → Channels S → Channels S
put_to_all p [] signal channels = channels
put_to_all p (q ∷ more) signal channels = put_to_all p more signal (put (p, q) signal channels)

-- the last signal to each of these is taken back, from the last on
abbrev pub taken_back_all : {S : Type 0} → ℕ → List ℕ → Channels S → Channels S
taken_back_all p [] channels = channels
taken_back_all p (q ∷ more) channels = taken_back (p, q) (taken_back_all p more channels)

-- the channels in which something waits, by rising pair
abbrev pub pairs : {S : Type 0} → Channels S → List (ℕ × ℕ)
pairs channels = map.keys channels
