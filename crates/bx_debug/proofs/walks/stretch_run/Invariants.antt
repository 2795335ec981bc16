use Rattle.bx_debug.proofs.Words.{◌-◌, replicate}
use Rattle.bx_debug.proofs.Stretches.{Far}
use Rattle.bx_debug.proofs.walks.stretch_run.Given as goal

-- so often it was applied so far
abbrev pub invariant-loop-made : goal.invariant-loop-made
invariant-loop-made l = let all = replicate l.run.times l.run.choice in Far l.image l.places all l.fn.world l.made l.world (replicate (l.run.times - l.made) l.run.choice)
