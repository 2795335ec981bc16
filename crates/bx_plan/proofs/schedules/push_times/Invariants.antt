use Rattle.std.proofs.Common.{◌≡◌, ◌++◌, replicate}
use Rattle.bx_plan.proofs.schedules.push_times.Given as goal

abbrev pub invariant-loop-turn : goal.invariant-loop-turn
invariant-loop-turn l = l.choices.items ≡ l.initial.choices.items ++ replicate l._turn l.run.choice
