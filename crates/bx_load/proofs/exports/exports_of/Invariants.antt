use Rattle.std.proofs.Common.{◌≡◌, ℕ, drop}
use Rattle.std.specs.List.{list_any}
use Rattle.bx_terms.specs.declared.atom_table.AtomId.{AtomId}
use Rattle.bx_load.specs.Exports.{found}
use Rattle.bx_load.specs.Loading.{is_missing, lacks_export}
use Rattle.bx_load.proofs.ExportSteps.{so_far}
use Rattle.bx_load.proofs.exports.exports_of.Given as goal

abbrev pub invariant-loop-export : goal.invariant-loop-export
invariant-loop-export l =
    (lacks_export l.unit ≡ list_any (is_missing l.unit.functions) (drop l.export-index l.unit.exports))
    × ((f : AtomId) (a : ℕ) → found l.exports f a ≡ so_far l.unit l.export-index f a)
