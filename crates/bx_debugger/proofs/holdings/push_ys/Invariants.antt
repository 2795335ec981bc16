use Rattle.std.proofs.Common.{◌≡◌, ◌++◌, drop, string_bytes}
use Rattle.bx_debugger.specs.Look.{y_lines}
use Rattle.bx_debugger.proofs.holdings.push_ys.Given as goal

-- what is written and what is left to write make the whole
abbrev pub invariant-loop-number : goal.invariant-loop-number
invariant-loop-number l = string_bytes l.out ++ y_lines l.program l.number (drop l.number l.cells) ≡ string_bytes l.fn.out ++ y_lines l.program 0 l.cells
