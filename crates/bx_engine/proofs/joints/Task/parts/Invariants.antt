use Rattle.std.specs.List.{All}
use Rattle.bx_engine.specs.Joints.{IsPart}
use Rattle.bx_engine.proofs.JointRows.{AreMade}
use Rattle.bx_engine.proofs.joints.Task.parts.Given as goal

abbrev pub invariant-loop-row : goal.invariant-loop-row
invariant-loop-row g l = record {
  made : All (IsPart l.self) l.made.items;
  rest : All (AreMade l.self) l.row-iterator.rest.items;
}
