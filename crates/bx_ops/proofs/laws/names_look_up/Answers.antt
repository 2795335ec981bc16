use Rattle.bx_ops.proofs.OpcodeLemmas.{name_finds}
use Rattle.bx_ops.proofs.laws.names_look_up.Goals as goal

pub returns : goal.returns
returns c = name_finds
