use Rattle.std.proofs.Common.{◌≡◌, ◌++◌, drop, string_bytes}
use Rattle.bx_svg.specs.Markup.{written}
use Rattle.bx_chart.specs.Lanes.{lanes_from}
use Rattle.bx_chart.proofs.lanes.push_lanes_over.Given as goal

-- what is written and what is left to write make the whole
abbrev pub invariant-loop-pid : goal.invariant-loop-pid
invariant-loop-pid l = string_bytes l.out ++ written (lanes_from l.rows l.pid (drop l.pid l.lanes)) ≡ string_bytes l.fn.out ++ written (lanes_from l.rows 0 l.lanes)
