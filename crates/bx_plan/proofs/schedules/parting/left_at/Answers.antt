use Rattle.std.proofs.lemmas.List.{take_rest}
use Rattle.bx_plan.proofs.Stretching.{from_on}
use Rattle.bx_plan.proofs.schedules.parting.left_at.Goals as goal

pub returns : goal.returns
returns c =
    let on = from_on c.args.stretches.now c.requires.rising c.args.position c.over_by.result c.over_by.ensures in
    rw (take_rest c.args.stretches.now c.over_by.result) (record { rising = on.0; rest = on.1 })
