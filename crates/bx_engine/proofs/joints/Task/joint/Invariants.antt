use Rattle.std.proofs.Common.{◌<◌}
use Rattle.std.specs.Prelude.{IsOk}
use Rattle.bx_world.specs.World.{started}
use Rattle.bx_engine.specs.Joints.{IsJoint}
use Rattle.bx_engine.proofs.joints.Task.joint.Given as goal

-- with a part, the start is known to be exported
abbrev pub invariant-loop-part : goal.invariant-loop-part
invariant-loop-part l = record {
  joint : IsJoint l.self l.joint;
  started : 0 < l.part-index → IsOk (started l.self.image.now l.self.start.0 l.self.start.1);
}
