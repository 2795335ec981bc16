use Rattle.bx_ops.proofs.OpcodeLemmas.{name_and_arity_finds}
use Rattle.bx_ops.proofs.laws.names_with_arities_look_up.Goals as goal

pub returns : goal.returns
returns c = name_and_arity_finds
