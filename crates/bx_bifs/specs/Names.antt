-- Atoms and the texts that they have in a table of atoms.
use Rattle.std.specs.Prelude.{ℕ, Bool, false, List, slice_get, bytes_eq}
use Rattle.std.specs.Option.{option_map_or}
use Rattle.bx_terms.specs.declared.atom_table.AtomId.{AtomId}

-- whether the table gives the atom this text
abbrev pub has_text : List (List ℕ) → AtomId → List ℕ → Bool
has_text texts atom text = option_map_or (bytes_eq text) (slice_get texts atom.0) false
