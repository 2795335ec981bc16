use Rattle.bx_world.proofs.Words.{◌<◌, length, map, subst, arith, List, slice_get, set, Does, Life, life, lives_acted, MayLack}
use Rattle.bx_world.proofs.Acted.{acted_among}
use Rattle.bx_world.proofs.procs.Procs.act.Goals as goal

pub returns : goal.returns
returns g c =
    let seen = life g.P.Hold.shown in
    let slots = c.self.inside.slots.items in
    let image = c.args.by.image.now in
    let p = c.args.by.pid in
    let here : p < length slots = omega arith in
    let old = g.C.Hold.shown c.args.lanes.now in
    let new = g.C.Hold.shown c.act.new.lanes in
    subst (λ (lives : List Life). Does (MayLack c.args.act p old (slice_get lives p)) (lives, old) (map seen (set slots p c.act.new.self), new) c.act.result (lives_acted image p c.args.act old lives)) c.self.view_is
    (acted_among image p seen c.args.act slots c.index_mut.result.now c.act.new.self old new c.act.result here c.index_mut.ensures.value c.act.ensures)
