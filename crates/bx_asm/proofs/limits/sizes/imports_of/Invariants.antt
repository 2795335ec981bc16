use Rattle.std.proofs.Common.{◌≡◌, drop}
use Rattle.std.specs.Prelude.{IsSome}
use Rattle.bx_asm.specs.Limits.{imports_from, imports, first_call}
use Rattle.bx_asm.proofs.limits.sizes.imports_of.Given as goal

abbrev pub invariant-loop-function : goal.invariant-loop-function
invariant-loop-function l =
    (imports_from l.held.keys (drop l.function-index l.functions) ≡ imports l.functions)
    × (IsSome (first_call (drop l.function-index l.functions)) → IsSome (first_call l.functions))
