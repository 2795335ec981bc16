use Rattle.std.proofs.Common.{◌≡◌, List, ◌++◌, drop}
use Rattle.bx_events.specs.declared.events.Event.{Event}
use Rattle.bx_events.specs.Ledgers.{Keeps}
use Rattle.bx_events.specs.Pairing.{sent_in}
use Rattle.bx_events.proofs.ledgers.Ledger.sent_in.Given as goal

-- the pairs that are left complete those that are told
abbrev pub invariant-loop-pair : goal.invariant-loop-pair
invariant-loop-pair l =
    (events : List Event) → Keeps events l.self
    → l.sent.items ++ sent_in l.channels events (drop l.pair-index l.pair-items) ≡ sent_in l.channels events l.pair-items
