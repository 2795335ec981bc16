-- The distinct prefixes of some schedules of a row.
use Rattle.std.specs.Prelude.{ℕ, nat_lt, List, [], map}
use Rattle.std.specs.List.{filter}
use Rattle.bx_world.specs.declared.choices.Choice.{Choice}
use Rattle.bx_plan.specs.declared.plans.Row.{Row}
use Rattle.std.specs.Prelude.{slice_index_or}

-- in the order of the row, those of the first so many schedules
abbrev pub counted : List (List Choice) → ℕ → List Row → List (List Choice)
counted schedules count rows = map (λ row. slice_index_or schedules row.line []) (filter (λ row. nat_lt row.line count) rows)
