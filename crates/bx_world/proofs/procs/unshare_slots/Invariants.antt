use Rattle.bx_world.proofs.Words.{◌≡◌, length, map, life}
use Rattle.bx_world.proofs.procs.unshare_slots.Given as goal

-- each process is seen as it was
abbrev pub invariant-loop-at : goal.invariant-loop-at
invariant-loop-at g l =
    (map (life g.P.Hold.shown) l.slots.items ≡ map (life g.P.Hold.shown) l.initial.slots.items)
    × (length l.slots.items ≡ length l.initial.slots.items)
