use Rattle.std.proofs.Common.{take}
use Rattle.bx_plan.specs.Planned.{schedules}
use Rattle.bx_engine.proofs.JointRows.{AreAdded}
use Rattle.bx_engine.proofs.joints.add_names.Given as goal

abbrev pub invariant-loop-number : goal.invariant-loop-number
invariant-loop-number l = AreAdded l.fn.names l.names (take l.number (schedules l.plan))
