use Rattle.std.proofs.Common.{◌≡◌, ◌++◌, drop}
use Rattle.std.specs.Prelude.{IsSome}
use Rattle.bx_asm.specs.Limits.{again, labels, first}
use Rattle.bx_asm.specs.Meaning.{as_place}
use Rattle.bx_asm.proofs.limits.labels.add_labels.Given as goal

abbrev pub invariant-loop-operand : goal.invariant-loop-operand
invariant-loop-operand l =
    (again l.seen.keys (labels (drop l.operand-index l.operands)) ≡ again l.fn.seen.keys (labels l.operands))
    × (l.seen.keys ++ labels (drop l.operand-index l.operands) ≡ l.fn.seen.keys ++ labels l.operands)
    × (IsSome (first as_place (drop l.operand-index l.operands)) → IsSome (first as_place l.operands))
