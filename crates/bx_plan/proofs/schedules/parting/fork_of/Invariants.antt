use Rattle.bx_plan.proofs.Words.{◌-◌, length, choices_from}
use Rattle.bx_plan.proofs.Parting.{Walked}
use Rattle.bx_plan.proofs.schedules.parting.fork_of.Given as goal

abbrev pub invariant-loop-past : goal.invariant-loop-past
invariant-loop-past l = Walked (choices_from 0 l.fn.one) (choices_from 0 l.fn.other) l.past l.left l.right

abbrev pub decreases-loop-past : goal.decreases-loop-past
decreases-loop-past l = length (choices_from 0 l.fn.one) - l.past
