use Rattle.std.proofs.Common.{◌≡◌, drop}
use Rattle.std.specs.Prelude.{IsSome}
use Rattle.bx_asm.specs.Limits.{imports_after, first}
use Rattle.bx_asm.specs.Meaning.{as_import}
use Rattle.bx_asm.proofs.limits.sizes.add_imports.Given as goal

abbrev pub invariant-loop-operand : goal.invariant-loop-operand
invariant-loop-operand l =
    (imports_after l.held.keys (drop l.operand-index l.operands) ≡ imports_after l.fn.held.keys l.operands)
    × (IsSome (first as_import (drop l.operand-index l.operands)) → IsSome (first as_import l.operands))
