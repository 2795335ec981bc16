use Rattle.std.proofs.Common.{◌≡◌, Some, drop}
use Rattle.bx_plan.specs.Planned.{schedules}
use Rattle.bx_chart.specs.Charts.{asked_for}
use Rattle.bx_chart.proofs.charts.with_name.Given as goal

-- none so far has the name
abbrev pub invariant-loop-number : goal.invariant-loop-number
invariant-loop-number l = asked_for (Some l.name) (schedules l.plan) ≡ asked_for (Some l.name) (drop l.number (schedules l.plan))
