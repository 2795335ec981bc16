use Rattle.std.proofs.Common.{◌≡◌, ◌++◌, drop, string_bytes}
use Rattle.bx_svg.specs.Markup.{written}
use Rattle.bx_chart.specs.Arrows.{waiting_labels}
use Rattle.bx_chart.proofs.arrows.push_labels_behind.Given as goal

-- what is written and what is left to write make the whole
abbrev pub invariant-loop-before : goal.invariant-loop-before
invariant-loop-before l = string_bytes l.out ++ written (waiting_labels l.atoms l.rows l.before (drop l.before l.waiting)) ≡ string_bytes l.fn.out ++ written (waiting_labels l.atoms l.rows 0 l.waiting)
