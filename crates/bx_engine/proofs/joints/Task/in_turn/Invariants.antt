use Rattle.std.specs.List.{All}
use Rattle.bx_engine.specs.Joints.{IsPart}
use Rattle.bx_engine.proofs.joints.Task.in_turn.Given as goal

abbrev pub invariant-loop : goal.invariant-loop
invariant-loop g l = All (IsPart l.self) l.made.items
