use Rattle.std.proofs.Common.{◌≡◌, ◌++◌}
use Rattle.std.specs.Prelude.{None, replicate}
use Rattle.bx_cells.proofs.frames.lengthen.Given as goal

abbrev pub invariant-loop-next : goal.invariant-loop-next
invariant-loop-next l = l.cells.items ≡ l.initial.cells.items ++ replicate l._next None
