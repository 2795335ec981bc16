use Rattle.std.proofs.Common.{◌≡◌, ◌≤◌, length, drop}
use Rattle.bx_signals.specs.Channels.{taken_back_all}
use Rattle.bx_signals.proofs.channels.Channels.take_back_all.Given as goal

abbrev pub invariant-loop-left : goal.invariant-loop-left
invariant-loop-left l = (l.left ≤ length l.links) × (l.self ≡ taken_back_all l.from (drop l.left l.links) l.fn.self)

abbrev pub decreases-loop-left : goal.decreases-loop-left
decreases-loop-left l = l.left
