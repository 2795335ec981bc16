use Rattle.std.proofs.Common.{◌≡◌}
use Rattle.bx_mail.proofs.slots.unshare_each.Given as goal

abbrev pub invariant-loop-at : goal.invariant-loop-at
invariant-loop-at l = l.slots.items ≡ l.fn.slots.items
