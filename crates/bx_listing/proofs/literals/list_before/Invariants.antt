use Rattle.bx_listing.proofs.Known.{◌≡◌, vec_len, kept_before}
use Rattle.bx_listing.proofs.literals.list_before.Given as goal

abbrev pub invariant-loop-element : goal.invariant-loop-element
invariant-loop-element l = kept_before l.elements.items l.list ≡ kept_before l.initial.elements.items l.initial.list

abbrev pub decreases-loop-element : goal.decreases-loop-element
decreases-loop-element l = vec_len l.elements
