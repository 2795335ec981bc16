use Rattle.bx_world.proofs.Words.{Some, Does, Life, life_acted, MayLack}
use Rattle.bx_world.proofs.Acted.{only_exited}
use Rattle.bx_world.proofs.slots.Slot.act.Goals as goal

pub returns-in_default : goal.returns-in_default
returns-in_default g c =
    let old = g.C.Hold.shown c.args.lanes.now in
    let new = g.C.Hold.shown c.act_exited.new.lanes in
    only_exited g.P.Hold.shown c.args.self.now
    (λ (one : Life). Does (MayLack c.args.act c.args.by.pid old (Some one)) (one, old) (one, new) c.act_exited.result (life_acted c.args.by.image.now c.args.by.pid c.args.act old one))
    c.in_default.not-Live c.act_exited.ensures
