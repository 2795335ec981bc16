use Rattle.std.proofs.Common.{◌≡◌, take}
use Rattle.bx_plan.proofs.schedules.Schedule.from_choices.Given as goal

abbrev pub invariant-loop-choice : goal.invariant-loop-choice
invariant-loop-choice l = l.schedule ≡ take l.choice-index l.choices
