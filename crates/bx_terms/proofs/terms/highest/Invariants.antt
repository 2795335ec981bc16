use Rattle.bx_terms.proofs.Words.{◌≡◌, ◌≤◌, max, drop, listed, highest}
use Rattle.bx_terms.proofs.terms.highest.Given as goal

abbrev pub invariant-loop-term : goal.invariant-loop-term
invariant-loop-term l = (max l.highest (highest (listed (drop l.term-index l.terms))) ≡ highest (listed l.terms)) × (l.highest ≤ 10000)
