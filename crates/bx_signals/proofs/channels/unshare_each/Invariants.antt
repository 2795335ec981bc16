use Rattle.std.proofs.Common.{◌≡◌}
use Rattle.bx_signals.proofs.channels.unshare_each.Given as goal

abbrev pub invariant-loop-at : goal.invariant-loop-at
invariant-loop-at l = l.rows.items ≡ l.fn.rows.items
