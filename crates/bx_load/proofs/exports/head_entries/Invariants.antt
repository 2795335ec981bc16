use Rattle.std.proofs.Common.{◌≡◌, ℕ, drop}
use Rattle.bx_terms.specs.declared.atom_table.AtomId.{AtomId}
use Rattle.bx_asm.specs.Limits.{or_else}
use Rattle.bx_load.specs.Exports.{found}
use Rattle.bx_load.specs.Heads.{head_entry}
use Rattle.bx_load.proofs.exports.head_entries.Given as goal

abbrev pub invariant-loop-function : goal.invariant-loop-function
invariant-loop-function l =
    (f : AtomId) (a : ℕ) → or_else (found l.entries f a) (head_entry f a (drop l.function-index l.functions)) ≡ head_entry f a l.functions
