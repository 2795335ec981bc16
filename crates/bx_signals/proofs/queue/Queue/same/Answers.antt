use Rattle.std.proofs.Common.{refl, arith}
use Rattle.bx_signals.proofs.Turned.{same_everywhere}
use Rattle.bx_signals.proofs.queue.Queue.same.Goals as goal

pub returns : goal.returns
returns c = (λ _. same_everywhere c.args.self.now c.args.other.now c.loop-at.invariant.0 (λ k here. c.loop-at.invariant.1 k (omega (arith, here))), λ _. refl)
