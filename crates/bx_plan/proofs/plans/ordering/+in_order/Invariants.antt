use Rattle.std.proofs.Common.{◌-◌}
use Rattle.bx_plan.proofs.plans.ordering.+in_order.Given as goal

abbrev pub decreases-in_order : goal.decreases-in_order
decreases-in_order l = l.past - l.line
