use Rattle.bx_world.proofs.Words.{◌≡◌, ◌≤◌, ◌++◌, length, drop, map, Run, life, may_run, choices_from}
use Rattle.bx_world.proofs.procs.Procs.push_runs.Given as goal

-- the choices that were found and those that are left to find make all
abbrev pub invariant-loop-pid : goal.invariant-loop-pid
invariant-loop-pid g l =
    (length l.fn.choices.items ≤ length l.choices.items)
    × (l.choices.items ++ choices_from may_run Run l.pid (drop l.pid (map (life g.P.Hold.shown) l.self-inside.slots.items)) ≡ l.fn.choices.items ++ choices_from may_run Run 0 (map (life g.P.Hold.shown) l.self-inside.slots.items))
