use Rattle.bx_plan.proofs.Words.{◌≡◌, ◌++◌, List, length, Choice}
use Rattle.bx_plan.proofs.schedules.Schedule.append.Given as goal

-- the choices added so far, and what is left behind them
abbrev pub invariant-loop-run : goal.invariant-loop-run
invariant-loop-run l = (done : List Choice) × (l.self ≡ l.fn.self ++ done) × (done ++ l.left ≡ l.fn.part)

abbrev pub decreases-loop-run : goal.decreases-loop-run
decreases-loop-run l = length l.left
