use Rattle.std.proofs.Common.{◌≡◌, ◌≤◌, length}
use Rattle.bx_cells.specs.Indexed.{indexed}
use Rattle.bx_cells.proofs.registers.grow.Given as goal

abbrev pub invariant-loop-next : goal.invariant-loop-next
invariant-loop-next l = (indexed 0 l.cells.items ≡ indexed 0 l.fn.cells.items) × (length l.cells.items ≡ l._next) × (length l.fn.cells.items ≤ l._next)
