use Rattle.bx_plan.proofs.Words.{◌-◌, length, replicate, arith, common_steps, length-append, length-replicate, choices_from}
use Rattle.bx_plan.proofs.schedules.Schedule.push_up_to.Goals as goal

pub invariant_of-self-2 : goal.invariant_of-self-2
invariant_of-self-2 c =
    let old = choices_from 0 c.self.inside.stretches.items in
    let times = c.args.past - length old in
    grind (arith, common_steps, c.in_ok-join.ensures.longer times, length-append old (replicate times c.args.choice), length-replicate times c.args.choice)

pub returns-clause-ok : goal.returns-clause-ok
returns-clause-ok c = grind (arith, common_steps, c.in_ok-join.ensures.longer (c.args.past - length c.args.self.now))
