use Rattle.bx_world.proofs.Words.{◌≡◌, take, map, length, life}
use Rattle.bx_world.proofs.procs.same_slots.Given as goal

-- rows of one length that are seen the same so far
abbrev pub invariant-loop-at : goal.invariant-loop-at
invariant-loop-at g l = (length l.xs ≡ length l.ys) × (take l.at (map (life g.P.Hold.shown) l.xs) ≡ take l.at (map (life g.P.Hold.shown) l.ys))
