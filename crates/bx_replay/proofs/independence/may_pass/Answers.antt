use Rattle.std.proofs.Common.{ap, arith}
use Rattle.std.proofs.lemmas.Grind.{common_steps}
use Rattle.bx_world.specs.Running.{Ended}
use Rattle.bx_replay.proofs.Pairs.{known_passes}
use Rattle.bx_replay.proofs.independence.may_pass.Goals as goal

pub returns-clause-yes : goal.returns-clause-yes
returns-clause-yes c = λ h.
    let world = ap (λ (e : Ended). e.world) c.here.view_is in
    known_passes c.args.image.now c.args.first c.args.second c.args.here.now (grind (arith, common_steps)) (rw world at (c.may_go_first.ensures.0 h)) (omega (arith, c.actor.ensures, c.actor-2.ensures))
    (rw world at (c.is_settled.ensures c.if-not-is_settled.false))
