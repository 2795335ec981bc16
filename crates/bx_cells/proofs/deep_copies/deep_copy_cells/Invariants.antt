use Rattle.std.proofs.Common.{◌≡◌, take}
use Rattle.bx_cells.proofs.deep_copies.deep_copy_cells.Given as goal

abbrev pub invariant-loop-at : goal.invariant-loop-at
invariant-loop-at l = l.row.items ≡ take l.at l.cells
