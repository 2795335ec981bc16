use Rattle.bx_world.proofs.Words.{◌<◌, length, refl, arith, life}
use Rattle.bx_world.proofs.Viewed.{same_further}
use Rattle.bx_world.proofs.procs.same_slots.Goals as goal

pub loop-at-preserved : goal.loop-at-preserved
loop-at-preserved g c =
    let there : c.loop-at.at < length c.args.ys.now = omega arith in (
      c.loop-at.invariant.0,
      same_further (life g.P.Hold.shown) c.args.xs.now c.args.ys.now c.loop-at.at c.index-xs-at.result c.index-ys-at.result
          c.loop-at-test.true there c.index-xs-at.is c.index-ys-at.is c.loop-at.invariant.1 (c.if-not-same_slot.ensures.0 refl),
    )
