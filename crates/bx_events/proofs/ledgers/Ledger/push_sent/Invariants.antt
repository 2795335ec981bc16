use Rattle.std.proofs.Common.{◌≡◌, List, ◌++◌}
use Rattle.bx_events.specs.declared.events.Event.{Event}
use Rattle.bx_events.specs.Ledgers.{Keeps}
use Rattle.bx_events.specs.Pairing.{all_sent, arrivals}
use Rattle.bx_events.proofs.ledgers.Ledger.push_sent.Given as goal

-- what is left completes those that are told
abbrev pub invariant-loop-signal : goal.invariant-loop-signal
invariant-loop-signal l =
    (events : List Event) → Keeps events l.self
    → l.sent.items ++ all_sent l.before l.pair events l.signal-iterator.rest.items ≡ l.fn.sent.items ++ all_sent (arrivals l.pair events) l.pair events l.fn.signals.items
