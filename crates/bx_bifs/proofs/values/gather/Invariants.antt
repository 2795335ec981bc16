use Rattle.bx_bifs.proofs.Words.{◌≡◌, elements}
use Rattle.bx_bifs.proofs.Building.{before}
use Rattle.bx_bifs.proofs.values.gather.Given as goal

-- the elements taken so far, before those of the rest, are all
abbrev pub invariant-loop-head : goal.invariant-loop-head
invariant-loop-head l = before l.terms.items (elements l.rest) ≡ elements l.list
