use Rattle.bx_terms.proofs.AtomLaws.{again}
use Rattle.bx_terms.proofs.laws.atoms.naming_again.Goals as goal

pub returns : goal.returns
returns c = again
