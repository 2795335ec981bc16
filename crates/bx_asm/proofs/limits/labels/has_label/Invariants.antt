use Rattle.std.proofs.Common.{◌≡◌, drop}
use Rattle.std.specs.Prelude.{nat_eq}
use Rattle.std.specs.List.{list_any}
use Rattle.bx_asm.specs.Limits.{labels}
use Rattle.bx_asm.proofs.limits.labels.has_label.Given as goal

abbrev pub invariant-loop-operand : goal.invariant-loop-operand
invariant-loop-operand l = list_any (nat_eq l.label) (labels (drop l.operand-index l.operands)) ≡ list_any (nat_eq l.label) (labels l.operands)
