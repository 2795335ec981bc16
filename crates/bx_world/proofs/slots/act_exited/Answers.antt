use Rattle.bx_world.proofs.Words.{Some, Exited, MayLack}
use Rattle.bx_world.proofs.Acted.{exited_went, exited_refused}
use Rattle.bx_world.proofs.slots.act_exited.Goals as goal

pub returns-in-Ok : goal.returns-in-Ok
returns-in-Ok g c = λ reason.
    exited_went c.args.by.image.now c.args.by.pid c.args.act reason (g.C.Hold.shown c.args.lanes.now) (g.C.Hold.shown c.hear_exited.new.lanes) (c.in-Ok.ensures reason)

pub returns-in-Err : goal.returns-in-Err
returns-in-Err g c = λ reason.
    exited_refused c.args.by.image.now c.args.by.pid c.args.act reason (g.C.Hold.shown c.args.lanes.now) (g.C.Hold.shown c.hear_exited.new.lanes)
    (MayLack c.args.act c.args.by.pid (g.C.Hold.shown c.args.lanes.now) (Some (Exited reason))) c.in-Err.refused (c.in-Err.ensures reason)
