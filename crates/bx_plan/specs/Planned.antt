-- A plan: its named schedules, in the order of their lines.
use Rattle.std.specs.Prelude.{ℕ, ◌-◌, List, [], drop, slice_index_or, take}
use Rattle.bx_world.specs.declared.choices.Choice.{Choice}
use Rattle.bx_plan.specs.Plans.{Named}

abbrev pub Planned : Type 0
Planned = List Named

abbrev pub schedules : Planned → List Named
schedules plan = plan

-- the choices of the schedule of that number
abbrev pub choices_at : Planned → ℕ → List Choice
choices_at plan number = (slice_index_or plan number ([], [])).1

-- the choices from one position up to the one before another
abbrev pub part_of : ℕ → ℕ → List Choice → List Choice
part_of first past choices = take (past - first) (drop first choices)
