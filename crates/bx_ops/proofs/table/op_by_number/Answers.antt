use Rattle.std.proofs.Common.{◌==◌, ◌∙◌, refl}
use Rattle.bx_ops.specs.Opcodes.{opcode, with_number}
use Rattle.bx_ops.specs.Rows.{op_in, said_of_op}
use Rattle.bx_ops.proofs.RowLemmas.{first-agreeing}
use Rattle.bx_ops.proofs.table.op_by_number.Goals as goal

pub returns : goal.returns
unfolding with_number
returns c = c.numbered.ensures ∙ first-agreeing op_in said_of_op opcode (λ row. row.number == c.args.number) _ refl
