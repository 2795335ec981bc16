use Rattle.bx_world.proofs.Words.{Ok, map, sym, ap, subst, ◌∙◌, List, Result, set, Fault, Lanes, Turn, Tried, RunsOnce, RunsWhole, lives_after, turn_after, life, Life, Exited}
use Rattle.std.proofs.lemmas.List.{map-set}
use Rattle.bx_world.specs.declared.slots.Slot.TheVariants as slots
use Rattle.bx_world.proofs.Batches.{an_end, a_child}
use Rattle.bx_world.proofs.procs.Procs.settle.Goals as goal

pub returns-in-Ok-Ended : goal.returns-in-Ok-Ended
returns-in-Ok-Ended g c = λ before asked.
    let image = c.args.by.image.now in
    let pid = c.args.by.pid in
    let seen = life g.P.Hold.shown in
    let old = c.args.self.now in
    let all = c.self.inside.slots.items in
    let l = g.C.Hold.shown c.args.lanes.now in
    let reason = c.in-Ok-Ended.reason in
    an_end image pid before old (map seen (set all pid (slots.Exited reason))) l reason (map-set seen all pid (slots.Exited reason) ∙ ap (λ (xs : List Life). set xs pid (Exited reason)) c.self.view_is)
    (subst (λ (r : Result Turn Fault). RunsOnce image pid before (lives_after pid old r, l) (turn_after r)) (c.in-Ok-Ended.is ∙ ap Ok c.in-Ok-Ended.field-0-is) asked)

pub returns-in-Ok-Spawns : goal.returns-in-Ok-Spawns
returns-in-Ok-Spawns g c = λ before asked.
    let image = c.args.by.image.now in
    let pid = c.args.by.pid in
    let old = c.args.self.now in
    let l = g.C.Hold.shown c.args.lanes.now in
    let new : List Life × Lanes = (c.spawn_child.new.self, g.C.Hold.shown c.spawn_child.new.lanes) in
    subst (λ (t : Tried). RunsWhole image pid before new t) (sym c.of.ensures)
    (a_child image pid before (old, l) new c.in-Ok-Spawns.spawn c.spawn_child.result c.spawn_child.ensures
    (subst (λ (r : Result Turn Fault). RunsOnce image pid before (lives_after pid old r, l) (turn_after r)) (c.in-Ok-Spawns.is ∙ ap Ok c.in-Ok-Spawns.field-0-is) asked))
