-- What `==` tells of two opcodes, for which the enum is too long for a search.
use Rattle.std.proofs.Common.{◌≡◌}
use Rattle.std.specs.Bool.{Decides}
use denote.Enum.Bare.{sameb, same_true, true_same}
use Rattle.bx_ops.specs.contracts.opcode.Op as op
use Rattle.bx_ops.specs.declared.opcode.Op.{Op}

pub op_same : (a b : Op) → Decides (sameb op.the_type a b) (a ≡ b)
op_same a b = (same_true op.the_type tt a b, true_same op.the_type a b)
