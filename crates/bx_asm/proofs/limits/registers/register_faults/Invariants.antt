use Rattle.std.proofs.Common.{◌≡◌, drop}
use Rattle.bx_asm.specs.Limits.{first, register_fault}
use Rattle.bx_asm.proofs.limits.registers.register_faults.Given as goal

abbrev pub invariant-loop-function : goal.invariant-loop-function
invariant-loop-function l = first (λ f. first register_fault f.items) (drop l.function-index l.functions) ≡ first (λ f. first register_fault f.items) l.functions
