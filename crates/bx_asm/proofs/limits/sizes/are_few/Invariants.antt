use Rattle.std.proofs.Common.{◌≡◌, ◌+◌, drop}
use Rattle.bx_asm.specs.Limits.{count}
use Rattle.bx_asm.proofs.limits.sizes.are_few.Given as goal

abbrev pub invariant-loop-function : goal.invariant-loop-function
invariant-loop-function l = count l.functions + l.left ≡ count (drop l.function-index l.functions) + 1000000
