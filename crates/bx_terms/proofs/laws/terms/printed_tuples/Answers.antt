use Rattle.bx_terms.proofs.Joined.{tuple_text}
use Rattle.bx_terms.proofs.laws.terms.printed_tuples.Goals as goal

pub returns : goal.returns
returns c = tuple_text
