use Rattle.std.proofs.Common.{◌≡◌, drop}
use Rattle.bx_asm.specs.Limits.{first, register_fault}
use Rattle.bx_asm.proofs.limits.registers.fault_in.Given as goal

abbrev pub invariant-loop-number : goal.invariant-loop-number
invariant-loop-number l = first register_fault (drop l.number l.function.items) ≡ first register_fault l.function.items
