use Rattle.bx_world.proofs.Words.{◌≡◌, take, map, life}
use Rattle.bx_world.proofs.procs.Procs.share.Given as goal

-- those that are shared so far are seen as they were
abbrev pub invariant-loop-slot : goal.invariant-loop-slot
invariant-loop-slot g l = map (life g.P.Hold.shown) l.slots.items ≡ take l.slot-index (map (life g.P.Hold.shown) l.slot-items)
