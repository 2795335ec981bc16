-- What a ledger knows of the events so far.
use Rattle.std.specs.Prelude.{◌≡◌, ℕ, List, Option, length, slice_get, unwrap_or}
use Rattle.std.specs.BTreeMap as tree
use Rattle.std.specs.Ordering.{nat_cmp, ordering_then}
use Rattle.std.specs.declared.cmp.Ordering.{Ordering}
use Rattle.bx_events.specs.declared.events.Event.{Event}
use Rattle.bx_events.specs.declared.ledgers.Ledger.{Ledger}
use Rattle.bx_events.specs.declared.ledgers.Tally.{Tally}
use Rattle.bx_events.specs.Pairing.{arrivals, senders}

-- by the sender, then by the receiver
abbrev pub by_pair : ℕ × ℕ → ℕ × ℕ → Ordering
by_pair x y = ordering_then (nat_cmp x.0 y.0) (nat_cmp x.1 y.1)

-- by the channel, then by the number
abbrev pub by_number : (ℕ × ℕ) × ℕ → (ℕ × ℕ) × ℕ → Ordering
by_number x y = ordering_then (by_pair x.0 y.0) (nat_cmp x.1 y.1)

-- none counted is 0
abbrev pub counted : Tally → ℕ × ℕ → ℕ
counted t pair = unwrap_or (tree.get by_pair t.counts pair) 0

abbrev pub sender_at : Ledger → ℕ × ℕ → ℕ → Option ℕ
sender_at l pair n = tree.get by_number l.senders (pair, n)

-- of each channel the events that put into it, and how many signals arrived
pub record Knows (put : ℕ × ℕ → List ℕ) (heard : ℕ × ℕ → ℕ) (l : Ledger) : Type 0 where
  pub puts : (pair : ℕ × ℕ) → counted l.puts pair ≡ length (put pair)
  pub arrivals : (pair : ℕ × ℕ) → counted l.arrivals pair ≡ heard pair
  pub senders : (pair : ℕ × ℕ) (n : ℕ) → sender_at l pair n ≡ slice_get (put pair) n

abbrev pub Keeps : List Event → Ledger → Type 0
Keeps events l = Knows (λ pair. senders pair events) (λ pair. arrivals pair events) l
