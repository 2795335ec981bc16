use Rattle.bx_world.proofs.Words.{◌≡◌, ◌≤◌, ◌-◌, replicate, ran}
use Rattle.bx_world.proofs.runs.advance_many.Given as goal

-- those that are made so far
abbrev pub invariant-loop-left : goal.invariant-loop-left
invariant-loop-left g l = (l.left ≤ l.fn.times) × (l.end ≡ ran l.image (replicate (l.fn.times - l.left) l.choice) l.fn.end)

abbrev pub decreases-loop-left : goal.decreases-loop-left
decreases-loop-left g l = l.left
