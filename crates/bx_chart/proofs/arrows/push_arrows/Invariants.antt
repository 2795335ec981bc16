use Rattle.std.proofs.Common.{◌≡◌, ◌++◌, drop, string_bytes}
use Rattle.bx_svg.specs.Markup.{written}
use Rattle.bx_chart.specs.Arrows.{arrows_from}
use Rattle.bx_chart.proofs.arrows.push_arrows.Given as goal

-- what is written and what is left to write make the whole
abbrev pub invariant-loop-row : goal.invariant-loop-row
invariant-loop-row l = string_bytes l.out ++ written (arrows_from l.row (drop l.row l.story.events)) ≡ string_bytes l.fn.out ++ written (arrows_from 0 l.story.events)
