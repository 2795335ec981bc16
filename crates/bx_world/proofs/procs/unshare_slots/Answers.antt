use Rattle.bx_world.proofs.Words.{◌∙◌, length-set, life}
use Rattle.bx_world.proofs.Viewed.{seen_again}
use Rattle.bx_world.proofs.procs.unshare_slots.Goals as goal

pub loop-at-preserved : goal.loop-at-preserved
loop-at-preserved g c =
    let slots = c.loop-at.slots.items in (
      seen_again (life g.P.Hold.shown) slots c.loop-at.at c.index.result.now c.in_ok-slot.slot c.index.ensures c.in_ok-slot.ensures ∙ c.loop-at.invariant.0,
      length-set slots c.loop-at.at c.in_ok-slot.slot ∙ c.loop-at.invariant.1,
    )
