use Rattle.std.proofs.Common.{◌≤◌, min, take, sum_by}
use Rattle.bx_signals.specs.Rows.{lines_cells}
use Rattle.bx_signals.proofs.channels.rows_cells.Given as goal

abbrev pub invariant-loop-row : goal.invariant-loop-row
invariant-loop-row l = min (sum_by lines_cells (take l.row-index l.rows)) 18446744073709551615 ≤ l.cells
