use Rattle.bx_terms.proofs.Words.{◌≡◌, ◌+◌, ◌*◌, take, nodes, listed}
use Rattle.bx_terms.proofs.+deep_copies.Given as goal

abbrev pub invariant-deep_copies::deep_copy_terms-loop-at : goal.invariant-deep_copies::deep_copy_terms-loop-at
invariant-deep_copies::deep_copy_terms-loop-at l = l.row.items ≡ take l.at l.terms

abbrev pub decreases-terms::Term::deep_copy : goal.decreases-terms::Term::deep_copy
decreases-terms::Term::deep_copy l = 3 * nodes l.self.now

abbrev pub decreases-deep_copies::deep_copy_cell : goal.decreases-deep_copies::deep_copy_cell
decreases-deep_copies::deep_copy_cell l = 3 * nodes l.head.now + 3 * nodes l.tail.now + 1

abbrev pub decreases-deep_copies::deep_copy_tuple : goal.decreases-deep_copies::deep_copy_tuple
decreases-deep_copies::deep_copy_tuple l = 3 * nodes (listed l.elements.now) + 2

abbrev pub decreases-deep_copies::deep_copy_terms : goal.decreases-deep_copies::deep_copy_terms
decreases-deep_copies::deep_copy_terms l = 3 * nodes (listed l.terms.now) + 1
