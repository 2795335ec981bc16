use Rattle.bx_world.proofs.Words.{◌<◌, length, arith, life}
use Rattle.bx_world.proofs.Viewed.{seen_further}
use Rattle.bx_world.proofs.procs.Procs.share.Goals as goal

pub loop-slot-preserved : goal.loop-slot-preserved
loop-slot-preserved g c =
    let seen = life g.P.Hold.shown in
    let here : c.loop-slot.slot-index < length c.deref-slot-items.result.now = omega arith in
    seen_further seen seen c.loop-slot.slots.items c.push.new.self.items c.deref-slot-items.result.now c.loop-slot.slot-index c.slot-item.result c.in_ok-share_slot.field-0
    here c.slot-item.is c.loop-slot.invariant c.in_ok-push.ensures.items c.in_ok-share_slot.ensures
