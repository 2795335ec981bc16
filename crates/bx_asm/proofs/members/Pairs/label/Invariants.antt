use Rattle.std.proofs.Common.{◌≡◌, length}
use Rattle.bx_asm.specs.Members.{pairs_in, label_for}
use Rattle.bx_asm.proofs.members.Pairs.label.Given as goal

abbrev pub invariant-loop-rest : goal.invariant-loop-rest
invariant-loop-rest l = label_for l.key (pairs_in l.fn.self.operands.now) ≡ label_for l.key (pairs_in l.rest)

abbrev pub decreases-loop-rest : goal.decreases-loop-rest
decreases-loop-rest l = length l.rest
