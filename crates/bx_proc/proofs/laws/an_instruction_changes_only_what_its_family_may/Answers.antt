use Rattle.std.proofs.Common.{Result, subst}
use Rattle.bx_terms.specs.declared.kinds.Trap.{Trap}
use Rattle.bx_proc.specs.declared.parts.Effect.{Effect}
use Rattle.bx_proc.specs.Process.{Process}
use Rattle.bx_proc.specs.Families.{parts_of}
use Rattle.bx_proc.proofs.Keeping.{WithinRun}
use Rattle.bx_proc.proofs.KeptRows.{row_in}
use Rattle.bx_proc.proofs.laws.an_instruction_changes_only_what_its_family_may.Goals as goal

pub returns-clause-parts : goal.returns-clause-parts
returns-clause-parts c pid image here i p q effect is = (subst (λ (r : Result (Process × Effect) Trap). WithinRun (parts_of i.op) p r) is (row_in pid image here i.op i.operands p)).0

pub returns-clause-effect : goal.returns-clause-effect
returns-clause-effect c pid image here i p q effect is = (subst (λ (r : Result (Process × Effect) Trap). WithinRun (parts_of i.op) p r) is (row_in pid image here i.op i.operands p)).1
