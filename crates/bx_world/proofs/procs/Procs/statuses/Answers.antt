use Rattle.bx_world.proofs.Words.{◌<◌, length, arith, life, status_of}
use Rattle.bx_world.proofs.Viewed.{made_further}
use Rattle.bx_world.proofs.procs.Procs.statuses.Goals as goal

pub loop-slot-preserved : goal.loop-slot-preserved
loop-slot-preserved g c =
    let here : c.loop-slot.slot-index < length c.deref-slot-items.result.now = omega arith in
    made_further (life g.P.Hold.shown) status_of c.loop-slot.statuses.items c.push.new.self.items c.deref-slot-items.result.now c.loop-slot.slot-index c.slot-item.result c.in_ok-slot_status.field-0
    here c.slot-item.is c.loop-slot.invariant c.in_ok-push.ensures.items c.in_ok-slot_status.ensures
