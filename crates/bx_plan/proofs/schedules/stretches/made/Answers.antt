use Rattle.bx_plan.proofs.Words.{◌+◌, ◌-◌, length, ap, ◌∙◌, arith, get_or_default, Stretch}
use Rattle.bx_plan.proofs.Stretching.{next, no_stretch, whole}
use Rattle.bx_plan.proofs.schedules.stretches.made.Goals as goal

pub returns-in-Some : goal.returns-in-Some
returns-in-Some c =
    let ss = c.args.stretches.now in
    let last = length ss - 1 in
    let item = c.in-Some.ensures.item.3 in
    let is = item.1 c.in-Some.stretch.now ∙ get_or_default ss last c.in-Some.stretch.now no_stretch (omega (arith, item.0)) in
    omega (arith, next ss c.requires last (omega (arith, item.0)), whole ss c.requires (last + 1) (omega (arith, item.0)), ap (λ (s : Stretch). s.past) is)
