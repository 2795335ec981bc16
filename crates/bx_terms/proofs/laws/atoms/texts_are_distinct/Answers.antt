use Rattle.bx_terms.proofs.AtomLaws.{distinct}
use Rattle.bx_terms.proofs.laws.atoms.texts_are_distinct.Goals as goal

pub returns : goal.returns
returns c = λ texts text one other table. distinct texts table.distinct text one other
