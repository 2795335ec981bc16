use Rattle.bx_terms.proofs.AtomLaws.{in_order}
use Rattle.bx_terms.proofs.laws.atoms.order_of_first_use.Goals as goal

pub returns : goal.returns
returns c = in_order
