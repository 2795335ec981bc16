use Rattle.bx_plan.proofs.Words.{◌≡◌, ◌++◌, drop, spread_runs}
use Rattle.bx_plan.proofs.schedules.Schedule.of.Given as goal

-- the runs that are left complete the choices so far
abbrev pub invariant-loop-run : goal.invariant-loop-run
invariant-loop-run l = l.schedule ++ spread_runs (drop l.run-index l.runs) ≡ spread_runs l.runs
