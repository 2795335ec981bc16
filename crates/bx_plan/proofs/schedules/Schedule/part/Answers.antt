use Rattle.bx_plan.proofs.Words.{◌-◌, List, length, take, drop, ap, subst, ◌∙◌, arith, take_rest, Stretch, IsOverBy}
use Rattle.bx_plan.proofs.Stretching.{part_on}
use Rattle.bx_plan.proofs.schedules.Schedule.part.Goals as goal

pub new-requires : goal.new-requires
new-requires c =
    let n = c.over_by-at.result in
    let over : IsOverBy c.self.inside.stretches.items c.args.first n = subst (λ (ss : List Stretch). IsOverBy ss c.args.first n) c.deref.ensures.value c.over_by-at.ensures in
    (part_on c.self.inside.stretches.items _ c.args.first c.args.past n c.self.invariant.0 over c.requires.order (omega (arith, c.requires.within, ap length c.self.view_is)) (take_rest c.deref-2.result.now n ∙ ap (drop n) c.deref-2.ensures.value)).0

pub returns : goal.returns
returns c =
    let n = c.over_by-at.result in
    let over : IsOverBy c.self.inside.stretches.items c.args.first n = subst (λ (ss : List Stretch). IsOverBy ss c.args.first n) c.deref.ensures.value c.over_by-at.ensures in
    let rest = part_on c.self.inside.stretches.items _ c.args.first c.args.past n c.self.invariant.0 over c.requires.order (omega (arith, c.requires.within, ap length c.self.view_is)) (take_rest c.deref-2.result.now n ∙ ap (drop n) c.deref-2.ensures.value) in
    c.new.ensures ∙ ap (take (c.args.past - c.args.first)) (rest.1 ∙ ap (drop c.args.first) c.self.view_is)
