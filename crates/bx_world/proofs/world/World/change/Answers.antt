use Rattle.bx_world.proofs.Words.{sym, ◌∙◌}
use Rattle.bx_world.proofs.Alone.{done_alone, lacked_alone}
use Rattle.bx_world.proofs.world.World.change.Goals as goal

pub returns-in-Ok : goal.returns-in-Ok
returns-in-Ok g c = done_alone c.args.image.now c.args.choice c.args.self.now c.in_ok-world.world c.apply.new.self c.in_ok-world.ensures c.in-Ok.ensures

pub returns-in-Err : goal.returns-in-Err
returns-in-Err g c =
    lacked_alone c.args.image.now c.args.choice c.args.self.now c.in_ok-world.world c.apply.new.self c.in-Err.refused c.in_ok-world.ensures (sym c.can.ensures ∙ c.if-not-can.false) c.in-Err.ensures
