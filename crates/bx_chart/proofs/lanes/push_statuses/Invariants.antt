use Rattle.std.proofs.Common.{◌≡◌, ◌++◌, drop, length, string_bytes}
use Rattle.bx_svg.specs.Markup.{written}
use Rattle.bx_chart.specs.Lanes.{statuses_from}
use Rattle.bx_chart.proofs.lanes.push_statuses.Given as goal

-- what is written and what is left to write make the whole
abbrev pub invariant-loop-pid : goal.invariant-loop-pid
invariant-loop-pid l = string_bytes l.out ++ written (statuses_from l.atoms (length l.story.events) l.story.lanes l.pid (drop l.pid l.story.outcome.statuses))
    ≡ string_bytes l.fn.out ++ written (statuses_from l.atoms (length l.story.events) l.story.lanes 0 l.story.outcome.statuses)
