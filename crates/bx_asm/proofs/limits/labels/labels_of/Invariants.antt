use Rattle.std.proofs.Common.{◌≡◌, ◌++◌, drop, []}
use Rattle.std.specs.Prelude.{IsSome}
use Rattle.bx_asm.specs.Limits.{again, all_labels, first_label}
use Rattle.bx_asm.proofs.limits.labels.labels_of.Given as goal

abbrev pub invariant-loop-function : goal.invariant-loop-function
invariant-loop-function l =
    (again l.seen.keys (all_labels (drop l.function-index l.functions)) ≡ again [] (all_labels l.functions))
    × (l.seen.keys ++ all_labels (drop l.function-index l.functions) ≡ all_labels l.functions)
    × (IsSome (first_label (drop l.function-index l.functions)) → IsSome (first_label l.functions))
