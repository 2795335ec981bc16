use Rattle.std.proofs.Common.{◌≡◌, ◌++◌, drop, string_bytes}
use Rattle.bx_debugger.specs.Open.{open_lines}
use Rattle.bx_debugger.proofs.open_lines.push_open_lines.Given as goal

-- what is written and what is left to write make the whole
abbrev pub invariant-loop-choice : goal.invariant-loop-choice
invariant-loop-choice l = string_bytes l.out ++ open_lines l.program l.world (drop l.choice-index l.choices) ≡ string_bytes l.fn.out ++ open_lines l.program l.world l.choices
