use Rattle.bx_world.proofs.Words.{◌≡◌, take, length}
use Rattle.bx_world.proofs.outcomes.same_statuses.Given as goal

-- rows of one length that are the same so far
abbrev pub invariant-loop-at : goal.invariant-loop-at
invariant-loop-at l = (length l.xs ≡ length l.ys) × (take l.at l.xs ≡ take l.at l.ys)
