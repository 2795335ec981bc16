use Rattle.bx_world.proofs.Words.{◌≡◌, ◌++◌, drop, map, delivery}
use Rattle.bx_world.proofs.choosing.push_deliveries.Given as goal

-- the deliveries that were put and those that are left make all
abbrev pub invariant-loop-from : goal.invariant-loop-from
invariant-loop-from l = l.choices.items ++ map delivery (drop l.from-index l.from-items) ≡ l.fn.choices.items ++ map delivery l.from-items
