use Rattle.bx_bifs.proofs.Words.{◌≡◌, length, ahead}
use Rattle.bx_bifs.proofs.values.put_ahead.Given as goal

-- what is left ahead of the list so far is the whole
abbrev pub invariant-loop-term : goal.invariant-loop-term
invariant-loop-term l = ahead l.terms.items l.list ≡ ahead l.fn.terms.items l.fn.rest

abbrev pub decreases-loop-term : goal.decreases-loop-term
decreases-loop-term l = length l.terms.items
