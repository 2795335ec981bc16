use Rattle.bx_plan.proofs.Words.{length, ap, arith, eqb-true, le-leb, leb-true, length-take-le, common_steps}
use Rattle.bx_plan.proofs.Commons.{common_long, taken_alike}
use Rattle.bx_plan.proofs.schedules.Schedule.same_front.Goals as goal

pub returns-then-past-upto : goal.returns-then-past-upto
returns-then-past-upto c = grind (arith, common_steps, taken_alike, leb-true, le-leb, common_long)

pub returns-else-past-upto : goal.returns-else-past-upto
returns-else-past-upto c = (
  λ t. absurd (omega (arith, eqb-true c.args.past c.args.upto t)),
  λ e. absurd (omega (arith, ap length e, length-take-le c.args.past c.args.self.now c.requires.past, length-take-le c.args.upto c.args.other.now c.requires.upto)),
)
