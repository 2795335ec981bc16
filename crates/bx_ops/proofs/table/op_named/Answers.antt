use Rattle.std.proofs.Common.{◌==◌, ◌&&◌, bytes_eq, length, ◌∙◌, refl}
use Rattle.bx_ops.specs.Opcodes.{opcode, every_op, with_name}
use Rattle.bx_ops.specs.Rows.{op_in, said_of_op}
use Rattle.bx_ops.proofs.Found.{find_same, by_length}
use Rattle.bx_ops.proofs.RowLemmas.{first-agreeing}
use Rattle.bx_ops.proofs.table.op_named.Goals as goal

pub returns : goal.returns
unfolding with_name
returns c =
    let text = c.args.text.now in
    c.named.ensures ∙ first-agreeing op_in said_of_op opcode (λ row. (length row.name == length text) && bytes_eq row.name text) _ refl
    ∙ find_same (λ op. (length (opcode op).name == length text) && bytes_eq (opcode op).name text) (λ op. bytes_eq (opcode op).name text) (λ op. by_length (opcode op).name text) every_op
