use Rattle.std.proofs.Common.{◌∙◌, arith, ap, refl, ◌++◌, string_bytes}
use Rattle.bx_engine.proofs.JointRows.{joint_next}
use Rattle.bx_engine.proofs.joints.Joint.add.Goals as goal

pub returns-clause-joint : goal.returns-clause-joint
returns-clause-joint c =
    joint_next c.args.task.now c.args.self.now _ c.args.part.now c.requires.joint c.requires.part
    (omega (arith, c.if-part-self.false)) (c.if-not-is_cut.ensures refl) refl c.in-Some.ensures (omega (arith, c.saturating_add-prefixes.ensures, c.if-prefixes-gt-MOST_PREFIXES.false)) (omega (arith, c.if-prefixes-gt-MOST_PREFIXES.false))
    (c.in-Ok.ensures.bytes ∙ ap (λ r. string_bytes c.args.self.now.report ++ r) c.as_str.ensures.value)
