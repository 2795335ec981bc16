use Rattle.bx_terms.proofs.Joined.{tuple_height}
use Rattle.bx_terms.proofs.laws.terms.heights.Goals as goal

pub returns-clause-tuples : goal.returns-clause-tuples
returns-clause-tuples c = tuple_height
