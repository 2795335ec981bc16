use Rattle.bx_world.proofs.Words.{◌≡◌, ◌≤◌, ◌++◌, length, drop, map, Expire, life, may_expire, choices_from}
use Rattle.bx_world.proofs.procs.Procs.push_expirations.Given as goal

-- the choices that were found and those that are left to find make all
abbrev pub invariant-loop-pid : goal.invariant-loop-pid
invariant-loop-pid g l =
    (length l.fn.choices.items ≤ length l.choices.items)
    × (l.choices.items ++ choices_from may_expire Expire l.pid (drop l.pid (map (life g.P.Hold.shown) l.self-inside.slots.items)) ≡ l.fn.choices.items ++ choices_from may_expire Expire 0 (map (life g.P.Hold.shown) l.self-inside.slots.items))
