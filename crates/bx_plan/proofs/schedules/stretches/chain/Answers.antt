use Rattle.bx_plan.proofs.Words.{◌+◌, ◌++◌, List, map, ap, ◌∙◌, arith, take_all, Stretch}
use Rattle.bx_plan.proofs.Edits.{chained, put_later}
use Rattle.bx_plan.proofs.Stretching.{next, within}
use Rattle.bx_plan.proofs.schedules.stretches.chain.Goals as goal

pub overflow_add-count : goal.overflow_add-count
overflow_add-count c =
    let i = c.loop-stretch.stretch-index in
    omega (arith, next c.args.behind.now c.requires.behind i c.loop-stretch-test.true, within c.args.behind.now c.requires.behind (i + 1), c.requires.few)

pub returns : goal.returns
returns c =
    let all = c.loop-stretch.invariant.items ∙ ap (λ (xs : List Stretch). c.args.stretches.now.items ++ map (put_later c.args.count) xs) (take_all c.loop-stretch.stretch-index c.args.behind.now c.loop-stretch-test.false) in
    let both = chained c.args.stretches.now.items c.args.behind.now c.loop-stretch.stretches.items c.args.count c.requires.rising c.requires.behind c.requires.count all in
    record { rising = both.0; choices = both.1 }
