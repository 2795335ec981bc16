use Rattle.bx_world.proofs.Words.{◌≡◌, take, map, life, status_of}
use Rattle.bx_world.proofs.procs.Procs.statuses.Given as goal

-- the statuses so far
abbrev pub invariant-loop-slot : goal.invariant-loop-slot
invariant-loop-slot g l = l.statuses.items ≡ map status_of (take l.slot-index (map (life g.P.Hold.shown) l.slot-items))
