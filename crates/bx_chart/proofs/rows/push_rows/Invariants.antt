use Rattle.std.proofs.Common.{◌≡◌, ◌++◌, drop, string_bytes}
use Rattle.bx_svg.specs.Markup.{written}
use Rattle.bx_chart.specs.Rows.{rows_from}
use Rattle.bx_chart.proofs.rows.push_rows.Given as goal

-- what is written and what is left to write make the whole
abbrev pub invariant-loop-row : goal.invariant-loop-row
invariant-loop-row l = string_bytes l.out ++ written (rows_from l.code.image.now l.code.sources.now l.row (drop l.row l.events))
    ≡ string_bytes l.fn.out ++ written (rows_from l.code.image.now l.code.sources.now 0 l.events)
