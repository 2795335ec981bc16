use Rattle.bx_ops.proofs.OpcodeLemmas.{number_finds}
use Rattle.bx_ops.proofs.laws.numbers_look_up.Goals as goal

pub returns : goal.returns
returns c = number_finds
