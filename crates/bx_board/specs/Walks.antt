-- A walk of one worker along the chains of a plan.
use Rattle.std.specs.Prelude.{◌≡◌, ℕ, ◌<◌, List, Option, Some, option_map, length, slice_get}
use Rattle.std.specs.List.{All}
use Rattle.bx_world.specs.Running.{Ended}
use Rattle.bx_plan.specs.Chains.{AreChains, end}
use Rattle.bx_plan.specs.Planned.{schedules}
use Rattle.bx_board.specs.declared.reports.Scheduled.{Scheduled}
use Rattle.bx_board.specs.declared.walks.Course.{Course}
use Rattle.bx_board.specs.declared.walks.Ending.{Ending}
use Rattle.bx_board.specs.declared.walks.Passed.{Passed}
use Rattle.bx_board.specs.declared.walks.Walk.{Walk}
use Rattle.bx_board.specs.Jobs.{Job, chain_end}
use Rattle.bx_board.specs.Reported.{told_alone}

abbrev pub job_of : Course → Job
job_of course = record { image = course.image.now; start = course.start; plan = course.plan.now; chains = course.chains }

-- its chains are those of its plan
abbrev pub IsCourse : Course → Type 0
IsCourse course = AreChains course.plan.now course.chains

-- an end is the one that its chain has
abbrev pub EndsSo : (ℕ → Ended) → Passed → Type 0
EndsSo ends passed = passed.end ≡ ends passed.chain

-- a schedule stands beside the chain with which it ends
abbrev pub IsEnding : Job → Ending → Type 0
IsEnding job ending = (ending.number < length (schedules job.plan)) × (ending.chain ≡ end job.chains ending.number)

-- by number, each schedule is told as of a run alone, or is not told yet
pub record AreTold (job : Job) (told : List (Option Scheduled)) : Type 0 where
  pub long : length told ≡ length (schedules job.plan)
  pub known : (number : ℕ) (one : Scheduled) → slice_get told number ≡ Some (Some one)
      → option_map (told_alone job.image job.start) (slice_get (schedules job.plan) number) ≡ Some one

pub record IsWalk (job : Job) (walk : Walk) : Type 0 where
  pub passed : All (EndsSo (chain_end job)) walk.passed.items
  pub told : AreTold job walk.told.items
  pub endings : All (IsEnding job) walk.endings.items
