use Rattle.std.proofs.Common.{◌≡◌}
use Rattle.bx_signals.proofs.row.unshare_each.Given as goal

abbrev pub invariant-loop-at : goal.invariant-loop-at
invariant-loop-at l = l.lines.items ≡ l.fn.lines.items
