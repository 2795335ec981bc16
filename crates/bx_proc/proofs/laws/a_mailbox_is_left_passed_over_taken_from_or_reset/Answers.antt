use Rattle.std.proofs.Common.{Result, subst}
use Rattle.bx_terms.specs.declared.kinds.Trap.{Trap}
use Rattle.bx_proc.specs.declared.parts.Effect.{Effect}
use Rattle.bx_proc.specs.Process.{Process}
use Rattle.bx_proc.specs.Families.{mailed_by}
use Rattle.bx_proc.proofs.Mailing.{Leaves, row_mailed}
use Rattle.bx_proc.proofs.laws.a_mailbox_is_left_passed_over_taken_from_or_reset.Goals as goal

pub returns : goal.returns
returns c pid image here i p q effect is = subst (λ (r : Result (Process × Effect) Trap). Leaves (mailed_by i.op p.mailbox) r) is (row_mailed pid image here i.op i.operands p)
