use Rattle.bx_terms.proofs.Joined.{list_order}
use Rattle.bx_terms.proofs.laws.terms.lists_compare_by_elements.Goals as goal

pub returns : goal.returns
returns c = list_order
