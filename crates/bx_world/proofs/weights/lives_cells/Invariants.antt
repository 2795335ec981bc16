use Rattle.bx_world.proofs.Words.{◌≤◌, map, take, life_cells, life}
use Rattle.std.proofs.Common.{min, sum_by}
use Rattle.bx_world.proofs.weights.lives_cells.Given as goal

abbrev pub invariant-loop-slot : goal.invariant-loop-slot
invariant-loop-slot g l = min (sum_by life_cells (take l.slot-index (map (life g.P.Hold.shown) l.slots))) 18446744073709551615 ≤ l.cells
