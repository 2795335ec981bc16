-- What a plan holds.
use Rattle.std.specs.Prelude.{List, map}
use Rattle.bx_plan.specs.declared.plans.Line.{Line}
use Rattle.bx_plan.specs.Plans.{Named}

abbrev pub line_view : Line → Named
line_view line = (line.name, line.schedule)

abbrev pub lines_view : List Line → List Named
lines_view lines = map line_view lines
