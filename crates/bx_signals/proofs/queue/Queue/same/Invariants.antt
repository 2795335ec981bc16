use Rattle.std.proofs.Common.{◌≡◌, ◌<◌, ℕ, length}
use Rattle.std.specs.Prelude.{slice_get}
use Rattle.bx_signals.proofs.queue.Queue.same.Given as goal

-- queues of one length that hold the same signals so far
abbrev pub invariant-loop-at : goal.invariant-loop-at
invariant-loop-at l = (length l.self ≡ length l.other) × ((k : ℕ) → k < l.at → slice_get l.self k ≡ slice_get l.other k)
