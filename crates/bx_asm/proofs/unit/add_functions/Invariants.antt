use Rattle.std.proofs.Common.{◌≡◌, ◌+◌, ◌++◌, length, map, take, drop}
use Rattle.std.specs.Prelude.{None}
use Rattle.bx_asm.specs.Drafts.{Grows, all_items, head_of}
use Rattle.bx_asm.specs.Limits.{first, register_fault, count}
use Rattle.bx_asm.proofs.unit.add_functions.Given as goal

abbrev pub invariant-loop-function : goal.invariant-loop-function
invariant-loop-function l =
    Grows l.fn.draft l.draft (all_items (take l.function-index l.functions))
    × (l.heads.items ≡ l.fn.heads.items ++ map head_of (take l.function-index l.functions))
    × (first (λ f. first register_fault f.items) (drop l.function-index l.functions) ≡ None)
    × (length l.draft.items.items + count (drop l.function-index l.functions) ≡ length l.fn.draft.items.items + count l.functions)
