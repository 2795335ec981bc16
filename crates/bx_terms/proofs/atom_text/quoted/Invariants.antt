use Rattle.bx_terms.proofs.Words.{◌≡◌, ◌++◌, string_bytes, codes, flat_map}
use Rattle.bx_terms.specs.AtomText.{escaped}
use Rattle.bx_terms.proofs.atom_text.quoted.Given as goal

abbrev pub invariant-loop-c : goal.invariant-loop-c
invariant-loop-c l = string_bytes l.out ≡ codes "'" ++ flat_map escaped l.yielded
