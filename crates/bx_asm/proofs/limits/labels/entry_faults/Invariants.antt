use Rattle.std.proofs.Common.{◌≡◌, drop}
use Rattle.bx_asm.specs.Limits as limits
use Rattle.bx_asm.proofs.limits.labels.entry_faults.Given as goal

abbrev pub invariant-loop-number : goal.invariant-loop-number
invariant-loop-number l = limits.entry_faults l.number (drop l.number l.functions) ≡ limits.entry_faults 0 l.functions
