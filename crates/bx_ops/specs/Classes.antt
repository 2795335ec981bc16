-- What sets some opcodes apart.
use Rattle.std.specs.Prelude.{Bool, true, false}
use Rattle.bx_ops.specs.declared.opcode.Op.{Op, TheVariants.Send, TheVariants.CallExt, TheVariants.CallExtLast, TheVariants.CallExtOnly}

-- whether an instruction concerns only the process that runs it: `send` puts a message into a channel,
-- and a call of an external function may be one of a native that spawns, links, sends or prints
abbrev pub is_local : Op → Bool
is_local Send = false
is_local CallExt = false
is_local CallExtLast = false
is_local CallExtOnly = false
is_local _ = true
