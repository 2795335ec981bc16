use Rattle.std.proofs.Common.{◌≡◌, ℕ, ◌<◌}
use Rattle.bx_cells.specs.Indexed.{cell_at}
use Rattle.bx_cells.proofs.registers.same_cells.Given as goal

abbrev pub invariant-loop-at : goal.invariant-loop-at
invariant-loop-at l = (k : ℕ) → k < l.at → cell_at l.xs k ≡ cell_at l.ys k
