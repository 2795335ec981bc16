use Rattle.std.proofs.Common.{◌≡◌, ◌++◌, drop, length, string_bytes}
use Rattle.bx_svg.specs.Markup.{written}
use Rattle.bx_chart.specs.Arrows.{waiting_arrows}
use Rattle.bx_chart.proofs.arrows.push_waiting_arrows.Given as goal

-- what is written and what is left to write make the whole
abbrev pub invariant-loop-before : goal.invariant-loop-before
invariant-loop-before l = string_bytes l.out ++ written (waiting_arrows (length l.story.events) l.before (drop l.before l.story.waiting)) ≡ string_bytes l.fn.out ++ written (waiting_arrows (length l.story.events) 0 l.story.waiting)
