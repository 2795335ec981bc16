use Rattle.std.proofs.Common.{◌≡◌, drop}
use Rattle.bx_asm.specs.Limits as limits
use Rattle.bx_asm.proofs.limits.labels.target_faults.Given as goal

abbrev pub invariant-loop-function : goal.invariant-loop-function
invariant-loop-function l = limits.target_faults l.labels.keys (drop l.function-index l.functions) ≡ limits.target_faults l.labels.keys l.functions
