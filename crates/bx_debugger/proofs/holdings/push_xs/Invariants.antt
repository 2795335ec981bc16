use Rattle.std.proofs.Common.{◌≡◌, ◌++◌, drop, string_bytes}
use Rattle.bx_cells.specs.Indexed.{listed}
use Rattle.bx_debugger.specs.Look.{x_lines}
use Rattle.bx_debugger.proofs.holdings.push_xs.Given as goal

-- what is written and what is left to write make the whole
abbrev pub invariant-loop-number : goal.invariant-loop-number
invariant-loop-number l = string_bytes l.out ++ x_lines l.program (listed l.number (drop l.number l.cells)) ≡ string_bytes l.fn.out ++ x_lines l.program (listed 0 l.cells)
