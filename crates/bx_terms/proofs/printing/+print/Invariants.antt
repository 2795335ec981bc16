use Rattle.bx_terms.proofs.Words.{◌≡◌, ◌+◌, ◌*◌, ◌++◌, drop, string_bytes, nodes, listed, printed_tail, printed_elements}
use Rattle.bx_terms.proofs.printing.+print.Given as goal

-- what is written and what is left to write make the whole
abbrev pub invariant-push_elements-loop-element : goal.invariant-push_elements-loop-element
invariant-push_elements-loop-element l =
    string_bytes l.out ++ printed_tail l.atoms (listed (drop l.element-index l.rest)) ≡ string_bytes l.fn.out ++ printed_elements l.atoms (listed l.elements)

abbrev pub decreases-push_term : goal.decreases-push_term
decreases-push_term l = 2 * nodes l.term.now

abbrev pub decreases-push_tail : goal.decreases-push_tail
decreases-push_tail l = 2 * nodes l.tail.now + 1

abbrev pub decreases-push_elements : goal.decreases-push_elements
decreases-push_elements l = 2 * nodes (listed l.elements.now)
