use Rattle.std.proofs.Common.{ℕ, List, ◌++◌, take}
use Rattle.bx_events.specs.Ledgers.{Knows}
use Rattle.bx_events.specs.Pairing.{by_puts}
use Rattle.bx_events.proofs.ledgers.Ledger.note.Given as goal

-- the first signals are noted
abbrev pub invariant-loop-put : goal.invariant-loop-put
invariant-loop-put l =
    (put : ℕ × ℕ → List ℕ) (heard : ℕ × ℕ → ℕ) → Knows put heard l.fn.self → Knows (λ q. put q ++ by_puts q l.event.actor l.at (take l.put-index l.put-items)) heard l.self
