use Rattle.std.proofs.Common.{◌≡◌, ◌++◌, length}
use Rattle.bx_plan.proofs.schedules.Schedule.to_choices.Given as goal

-- the choices so far, and what is left behind them
abbrev pub invariant-loop-run : goal.invariant-loop-run
invariant-loop-run l = l.choices.items ++ l.left ≡ l.self

abbrev pub decreases-loop-run : goal.decreases-loop-run
decreases-loop-run l = length l.left
