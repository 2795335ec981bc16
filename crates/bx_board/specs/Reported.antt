-- What is reported: what came of each schedule in the plan's order, each run alone from the start.
use Rattle.std.specs.Prelude.{◌≡◌, ℕ, ◌||◌, ◌==◌, nat_lt, if◌then◌else◌, List, map, Result, Ok, Err}
use Rattle.bx_terms.specs.Outcomes.{◌>>=◌}
use Rattle.bx_terms.specs.declared.faults.Fault.{Fault, TheVariants.Workers}
use Rattle.bx_load.specs.Image.{Loaded}
use Rattle.bx_world.specs.World.{started}
use Rattle.bx_world.specs.Running.{Ended}
use Rattle.bx_world.specs.Seen.{seen}
use Rattle.bx_plan.specs.Planned.{schedules}
use Rattle.bx_plan.specs.Plans.{Named}
use Rattle.bx_board.specs.declared.reports.Scheduled.{Scheduled}
use Rattle.bx_board.specs.declared.reports.Shown.{Shown}
use Rattle.bx_board.specs.Jobs.{Entry, Job, run_alone}

-- what the end of a run shows
abbrev pub shown : Ended → Shown
shown end = record { applied = end.applied; refused = end.refused; outcome = seen end.world }

abbrev pub IsShown : Ended → Shown → Type 0
IsShown end one = one ≡ shown end

-- and under a schedule's name
abbrev pub named : List ℕ → Shown → Scheduled
named name one = record { name = name; applied = one.applied; refused = one.refused; outcome = one.outcome }

abbrev pub told : List ℕ → Ended → Scheduled
told name end = named name (shown end)

abbrev pub told_alone : Loaded → Entry → Named → Scheduled
told_alone image start schedule = told schedule.0 (run_alone image start schedule.1)

abbrev pub reported_alone : Loaded → Entry → List Named → List Scheduled
reported_alone image start plan = map (told_alone image start) plan

abbrev pub report_of : Job → List Scheduled
report_of job = reported_alone job.image job.start (schedules job.plan)

-- the report of schedules from a start, which has to be exported
abbrev pub report_from : Loaded → Entry → List Named → Result (List Scheduled) Fault
report_from image start plan = started image start.0 start.1 >>= λ world. Ok (reported_alone image start plan)

-- the report by so many workers, of which there are 1 to 64
abbrev pub report_by : ℕ → Loaded → Entry → List Named → Result (List Scheduled) Fault
report_by workers image start plan = if (workers == 0) || nat_lt 64 workers then Err Workers else report_from image start plan
