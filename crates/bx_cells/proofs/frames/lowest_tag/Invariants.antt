use Rattle.std.proofs.Common.{◌≡◌, drop}
use Rattle.bx_cells.specs.Stack as stack
use Rattle.bx_cells.proofs.frames.lowest_tag.Given as goal

abbrev pub invariant-loop-cell : goal.invariant-loop-cell
invariant-loop-cell l = stack.lowest_tag (drop l.cell-index l.cells) ≡ stack.lowest_tag l.cells
