use Rattle.std.proofs.Common.{◌≡◌, ◌↔◌}
use Rattle.bx_mail.specs.Slots.{row}
use Rattle.bx_mail.proofs.slots.same_row.Given as goal

abbrev pub invariant-loop-left : goal.invariant-loop-left
invariant-loop-left l = (row l.slots l.left l.at ≡ row l.others l.left l.other) ↔ (row l.slots l.count l.fn.first ≡ row l.others l.count l.fn.other_first)

abbrev pub decreases-loop-left : goal.decreases-loop-left
decreases-loop-left l = l.left
