use Rattle.bx_terms.proofs.Joined.{smaller_tuple, as_large_tuple}
use Rattle.bx_terms.proofs.laws.terms.tuples_compare_by_size_then_elements.Goals as goal

pub returns : goal.returns
returns c = record { size = smaller_tuple; elements = as_large_tuple }
