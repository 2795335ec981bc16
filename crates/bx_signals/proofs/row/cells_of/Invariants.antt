use Rattle.std.proofs.Common.{◌≤◌, min, take, sum_by}
use Rattle.bx_signals.specs.Rows.{line_cells}
use Rattle.bx_signals.proofs.row.cells_of.Given as goal

abbrev pub invariant-loop-at : goal.invariant-loop-at
invariant-loop-at l = min (sum_by line_cells (take l.at l.lines)) 18446744073709551615 ≤ l.cells
