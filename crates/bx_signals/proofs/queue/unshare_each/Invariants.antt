use Rattle.std.proofs.Common.{◌≡◌}
use Rattle.bx_signals.proofs.queue.unshare_each.Given as goal

abbrev pub invariant-loop-at : goal.invariant-loop-at
invariant-loop-at l = l.signals.items ≡ l.fn.signals.items
