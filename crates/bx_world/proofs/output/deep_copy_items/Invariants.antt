use Rattle.bx_world.proofs.Words.{◌≡◌, take}
use Rattle.bx_world.proofs.output.deep_copy_items.Given as goal

abbrev pub invariant-loop-at : goal.invariant-loop-at
invariant-loop-at l = l.row.items ≡ take l.at l.items
