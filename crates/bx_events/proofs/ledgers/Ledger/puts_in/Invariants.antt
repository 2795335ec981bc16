use Rattle.std.proofs.Common.{◌≡◌, List, ◌++◌, drop}
use Rattle.bx_events.specs.declared.events.Event.{Event}
use Rattle.bx_events.specs.Ledgers.{Keeps}
use Rattle.bx_events.specs.Pairing.{puts_in}
use Rattle.bx_events.proofs.ledgers.Ledger.puts_in.Given as goal

-- the pairs that are left complete those that are numbered
abbrev pub invariant-loop-pair : goal.invariant-loop-pair
invariant-loop-pair l =
    (events : List Event) → Keeps events l.self
    → l.puts.items ++ puts_in l.channels events (drop l.pair-index l.pair-items) ≡ puts_in l.channels events l.pair-items
