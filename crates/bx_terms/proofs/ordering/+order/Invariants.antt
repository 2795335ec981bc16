use Rattle.bx_terms.proofs.Words.{◌≡◌, ◌+◌, ◌*◌, drop, nodes, listed, order_of}
use Rattle.bx_terms.proofs.ordering.+order.Given as goal

-- what is left stands as the whole does
abbrev pub invariant-order_elements-loop-i : goal.invariant-order_elements-loop-i
invariant-order_elements-loop-i l =
    order_of l.atoms (listed (drop l.i l.xs)) (listed (drop l.i l.ys)) ≡ order_of l.atoms (listed l.xs) (listed l.ys)

abbrev pub decreases-order : goal.decreases-order
decreases-order l = 2 * nodes l.first.now

abbrev pub decreases-order_tuples : goal.decreases-order_tuples
decreases-order_tuples l = 2 * nodes (listed l.xs.now) + 1

abbrev pub decreases-order_elements : goal.decreases-order_elements
decreases-order_elements l = 2 * nodes (listed l.xs.now)
