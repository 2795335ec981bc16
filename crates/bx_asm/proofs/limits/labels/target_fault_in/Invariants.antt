use Rattle.std.proofs.Common.{◌≡◌, drop}
use Rattle.bx_asm.specs.Limits.{first, target_fault}
use Rattle.bx_asm.proofs.limits.labels.target_fault_in.Given as goal

abbrev pub invariant-loop-operand : goal.invariant-loop-operand
invariant-loop-operand l = first (target_fault l.labels.keys) (drop l.operand-index l.operands) ≡ first (target_fault l.labels.keys) l.operands
