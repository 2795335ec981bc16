use Rattle.bx_terms.proofs.Words.{◌≡◌, fold, take, used}
use Rattle.bx_terms.proofs.atom_table.add_all.Given as goal

abbrev pub invariant-loop-text : goal.invariant-loop-text
invariant-loop-text l = l.names ≡ fold (λ held text. used held text.now) l.fn.names (take l.text-index l.texts)
