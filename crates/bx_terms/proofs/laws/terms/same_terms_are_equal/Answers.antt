use Rattle.bx_terms.specs.Sameness.{same_decides}
use Rattle.bx_terms.proofs.laws.terms.same_terms_are_equal.Goals as goal

pub returns : goal.returns
returns c = same_decides
