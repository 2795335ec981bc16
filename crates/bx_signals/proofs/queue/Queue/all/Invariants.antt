use Rattle.std.proofs.Common.{◌≡◌, take}
use Rattle.bx_signals.proofs.queue.Queue.all.Given as goal

-- the signals so far
abbrev pub invariant-loop-at : goal.invariant-loop-at
invariant-loop-at l = l.signals.items ≡ take l.at l.self
