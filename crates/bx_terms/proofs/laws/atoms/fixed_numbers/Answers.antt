use Rattle.bx_terms.proofs.AtomLaws.{fixed_in}
use Rattle.bx_terms.proofs.laws.atoms.fixed_numbers.Goals as goal

pub returns : goal.returns
returns c = fixed_in
