-- What a lease and a piece hold: a chain of a plan, and an end.
use Rattle.std.specs.Prelude.{ℕ, ◌-◌, ◌<◌, ◌≤◌, length, take}
use Rattle.bx_load.specs.Image.{Loaded}
use Rattle.bx_plan.specs.Planned.{Planned, choices_at}
use Rattle.bx_world.specs.Running.{Ended}
use Rattle.bx_board.specs.declared.working.Span.{Span}
use Rattle.bx_board.specs.Jobs.{Entry, Work, run_alone}

-- choices of a schedule, one at least
pub record IsSpan (plan : Planned) (span : Span) : Type 0 where
  pub line : span.line < length plan
  pub some : span.first < span.past
  pub within : span.past ≤ length (choices_at plan span.line)

-- the run of the first so many choices of a schedule, alone
abbrev pub run_up_to : Loaded → Entry → Planned → ℕ → ℕ → Ended
run_up_to image start plan line past = run_alone image start (take past (choices_at plan line))

-- the run up to a chain's end, of which the chain's choices are the last
abbrev pub work_at : Loaded → Entry → Planned → Span → Work
work_at image start plan span = record { image = image; start = start; path = take span.past (choices_at plan span.line); own = span.past - span.first }
