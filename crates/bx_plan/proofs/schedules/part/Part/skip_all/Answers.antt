use Rattle.bx_plan.proofs.Words.{◌+◌, refl, both_ways}
use Rattle.bx_plan.proofs.Runs.{run_longer}
use Rattle.bx_plan.proofs.schedules.part.Part.skip_all.Goals as goal

pub loop-choice-init : goal.loop-choice-init
loop-choice-init c = (0, refl)

pub loop-choice-preserved : goal.loop-choice-preserved
loop-choice-preserved c =
    let so_far = c.loop-choice.invariant in
    let on = c.skip.ensures in
    (so_far.0 + on.0, run_longer c.args.choice so_far.0 on.0 _ _ _ so_far.1 on.2)

pub returns : goal.returns
returns c = let so_far = c.loop-choice.invariant in (so_far.0, so_far.1, λ e. both_ways _ c.loop-choice-test.false (c.begins_with.ensures.1 e))
