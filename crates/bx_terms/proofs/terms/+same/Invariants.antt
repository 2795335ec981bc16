use Rattle.bx_terms.proofs.Words.{◌≡◌, drop, length, nodes, listed}
use Rattle.bx_terms.proofs.terms.+same.Given as goal

-- rows that agree from here on agree
abbrev pub invariant-same_elements-loop-i : goal.invariant-same_elements-loop-i
invariant-same_elements-loop-i l = (length l.xs ≡ length l.ys) × (drop l.i l.xs ≡ drop l.i l.ys → l.xs ≡ l.ys)

abbrev pub decreases-Term::same : goal.decreases-Term::same
decreases-Term::same l = nodes l.self.now

abbrev pub decreases-same_elements : goal.decreases-same_elements
decreases-same_elements l = nodes (listed l.xs.now)
