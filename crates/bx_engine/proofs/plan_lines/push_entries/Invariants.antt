use Rattle.std.proofs.Common.{◌≡◌, ◌++◌, length, string_bytes}
use Rattle.bx_engine.specs.PlanLines.{entries_words, gathered}
use Rattle.bx_engine.proofs.plan_lines.push_entries.Given as goal

-- what is written and what is left to write make the whole
abbrev pub invariant-loop-run : goal.invariant-loop-run
invariant-loop-run l = string_bytes l.out ++ entries_words (gathered l.left) ≡ string_bytes l.fn.out ++ entries_words (gathered l.fn.choices)

abbrev pub decreases-loop-run : goal.decreases-loop-run
decreases-loop-run l = length l.left
