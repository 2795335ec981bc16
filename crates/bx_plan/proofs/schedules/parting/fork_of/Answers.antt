use Rattle.bx_plan.proofs.Words.{List, sym, subst, arith, both_ways, Stretch, behind, choices_from}
use Rattle.bx_plan.proofs.Commons.{common_short}
use Rattle.bx_plan.proofs.Parting.{walked_all, walked_known, walked_on, Walked}
use Rattle.bx_plan.proofs.schedules.parting.fork_of.Goals as goal

pub left_at-left-requires-clause-within : goal.left_at-left-requires-clause-within
left_at-left-requires-clause-within c = omega (arith, c.requires.known, (common_short (choices_from 0 c.args.one.now) (choices_from 0 c.args.other.now)).0)

pub left_at-right-requires-clause-within : goal.left_at-right-requires-clause-within
left_at-right-requires-clause-within c = omega (arith, c.requires.known, (common_short (choices_from 0 c.args.one.now) (choices_from 0 c.args.other.now)).1)

pub loop-past-init : goal.loop-past-init
loop-past-init c = walked_known (choices_from 0 c.args.one.now) (choices_from 0 c.args.other.now) c.args.known _ _ c.requires.known c.left_at-left.ensures c.left_at-right.ensures

pub loop-past-smaller : goal.loop-past-smaller
loop-past-smaller c =
    let on = walked_on (choices_from 0 c.args.one.now) (choices_from 0 c.args.other.now) c.loop-past.past c.min-past.result c.loop-past.left.now c.loop-past.right.now c.loop-past.invariant (c.begin_alike.ensures.0 c.loop-past-test.true) c.min-past.ensures in
    omega (arith, on.1, on.0.common, (common_short (choices_from 0 c.args.one.now) (choices_from 0 c.args.other.now)).0)

pub loop-past-preserved : goal.loop-past-preserved
loop-past-preserved c =
    let xs = choices_from 0 c.args.one.now in
    let ys = choices_from 0 c.args.other.now in
    let on = walked_on xs ys c.loop-past.past c.min-past.result c.loop-past.left.now c.loop-past.right.now c.loop-past.invariant (c.begin_alike.ensures.0 c.loop-past-test.true) c.min-past.ensures in
    subst (λ (ss : List Stretch). Walked xs ys c.min-past.result ss c.behind-right.result.now) (sym c.behind-left.ensures)
    (subst (λ (ss : List Stretch). Walked xs ys c.min-past.result (behind c.min-past.result c.loop-past.left.now) ss) (sym c.behind-right.ensures) on.0)

pub returns : goal.returns
returns c =
    let both = walked_all (choices_from 0 c.args.one.now) (choices_from 0 c.args.other.now) c.loop-past.past c.loop-past.left.now c.loop-past.right.now c.loop-past.invariant (λ alike. both_ways _ c.loop-past-test.false (c.begin_alike.ensures.1 alike)) in
    record { common = both.0; order = both.1 }
