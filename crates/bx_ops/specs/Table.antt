-- What the table says of an opcode: how it is written, its operands, and how many they are.
use Rattle.std.specs.Prelude.{ℕ, ◌&&◌, ◌==◌, Bool, true, false, List, Option, bytes_eq, count_by, find}
use Rattle.bx_ops.specs.declared.opcode.Op.{Op}
use Rattle.bx_ops.specs.declared.sorts.Slot.{Slot, TheVariants.NoLabel, TheVariants.ToX0}
use Rattle.bx_ops.specs.declared.sorts.Way.{Way}
use Rattle.bx_ops.specs.declared.sorts.Way.TheVariants as ways
use Rattle.bx_ops.specs.Opcodes.{opcode, every_op}

-- the operands
abbrev pub slots : Op → List Slot
slots op = (opcode op).slots

-- how it is written
abbrev pub way : Op → Way
way op = (opcode op).way

-- whether what stands in a slot is an operand: a `{f,0}` or `{x,0}` that always stands there is none
abbrev pub is_operand : Slot → Bool
is_operand NoLabel = false
is_operand ToX0 = false
is_operand _ = true

-- the arity: how many operands an instruction has, a list counting as one, a test's label and each argument of a BIF too
abbrev pub arity : Op → ℕ
arity op = count_by is_operand (slots op)

-- whether a listing writes an instruction so as `{test,NAME,LABEL,OPERANDS}`
abbrev pub is_test : Way → Bool
is_test ways.Test = true
is_test _ = false

-- the opcode with a name and an arity
unfoldable pub with_name_and_arity : List ℕ → ℕ → Option Op
with_name_and_arity name count = find (λ op. (arity op == count) && bytes_eq (opcode op).name name) every_op
