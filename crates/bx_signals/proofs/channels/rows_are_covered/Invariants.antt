use Rattle.std.proofs.Common.{◌≡◌, ◌≢◌, ℕ, ◌<◌, []}
use Rattle.bx_signals.specs.Rows.{queue_at}
use Rattle.bx_signals.proofs.channels.rows_are_covered.Given as goal

-- what waits in the rows that were looked at waits in the others too
abbrev pub invariant-loop-from : goal.invariant-loop-from
invariant-loop-from l = (p q : ℕ) → p < l.from → queue_at l.rows p q ≢ [] → queue_at l.others p q ≡ queue_at l.rows p q
