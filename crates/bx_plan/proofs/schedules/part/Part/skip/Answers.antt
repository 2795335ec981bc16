use Rattle.bx_plan.proofs.Words.{◌-◌, ◌++◌, List, replicate, take, sym, ap, ◌∙◌, slice_get, Choice, Stretch, choices_from, arith, common_steps}
use Rattle.bx_plan.proofs.Stretching.{skipped}
use Rattle.bx_plan.proofs.schedules.part.Part.skip.Goals as goal

pub invariant_of-self : goal.invariant_of-self
invariant_of-self c = grind (arith, common_steps, skipped)

pub returns : goal.returns
returns c =
    let until = c.min-self-inside.result in
    let first = ap (λ (cs : List Choice). slice_get cs 0) c.self.view_is ∙ c.requires in
    let on = (skipped c.self.inside.stretches.now c.self.inside.first c.self.inside.past until c.args.choice c.self.invariant first c.min-self-inside.ensures).1 in
    (on.0, on.1, sym c.self.view_is ∙ on.2 ∙ ap (λ (xs : List Stretch). replicate on.0 c.args.choice ++ take (c.self.inside.past - until) (choices_from until xs)) (sym c.behind-self-inside.ensures))
