use Rattle.bx_terms.proofs.Ties.{only_equal_tied}
use Rattle.bx_terms.proofs.laws.terms.equal_in_order_is_equal.Goals as goal

pub returns : goal.returns
returns c = only_equal_tied
