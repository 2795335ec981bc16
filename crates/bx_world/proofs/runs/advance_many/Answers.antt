use Rattle.bx_world.proofs.Words.{◌-◌, arith}
use Rattle.bx_world.proofs.Many.{few_made, more_made, lacks_later}
use Rattle.bx_world.proofs.runs.advance_many.Goals as goal

pub advance_some-requires-clause-few : goal.advance_some-requires-clause-few
advance_some-requires-clause-few g c =
    let most = few_made c.args.image.now c.args.choice (c.args.times - c.loop-left.left) c.args.end.now c.loop-left.end c.loop-left.invariant.1 in
    omega (arith, most, c.requires, c.loop-left.invariant.0)

pub loop-left-preserved : goal.loop-left-preserved
loop-left-preserved g c = (
  omega arith,
  more_made c.args.image.now c.args.choice c.args.times c.loop-left.left c.in-Ok.made c.args.end.now c.loop-left.end c.advance_some.new.end c.loop-left.invariant.0 c.in-Ok.ensures.1 c.loop-left.invariant.1 c.in-Ok.ensures.2,
)

pub returns-in-Err : goal.returns-in-Err
returns-in-Err g c =
    lacks_later c.args.image.now c.args.choice c.args.times c.loop-left.left c.args.end.now c.loop-left.end c.advance_some.new.end c.loop-left.invariant.0 c.loop-left.invariant.1 c.in-Err.ensures
