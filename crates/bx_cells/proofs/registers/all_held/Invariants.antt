use Rattle.std.proofs.Common.{◌≡◌, take}
use Rattle.bx_cells.specs.Held.{all_held}
use Rattle.bx_cells.proofs.registers.all_held.Given as goal

abbrev pub invariant-loop-term : goal.invariant-loop-term
invariant-loop-term l = l.cells.items ≡ all_held (take l.term-index l.terms)
