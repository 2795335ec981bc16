use Rattle.bx_ops.proofs.OpcodeLemmas.{names_distinct}
use Rattle.bx_ops.proofs.laws.names_are_distinct.Goals as goal

pub returns : goal.returns
returns c = names_distinct
