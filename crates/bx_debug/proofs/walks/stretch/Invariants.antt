use Rattle.bx_debug.proofs.Words.{length}
use Rattle.bx_debug.proofs.Stretches.{Far}
use Rattle.bx_debug.proofs.walks.stretch.Given as goal

-- all choices so far were applied, and these are left
abbrev pub invariant-loop-run : goal.invariant-loop-run
invariant-loop-run l = Far l.image l.places l.fn.choices l.fn.world l.made l.world l.left

-- the choices that are left
abbrev pub decreases-loop-run : goal.decreases-loop-run
decreases-loop-run l = length l.left
