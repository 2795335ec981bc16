use Rattle.bx_ops.proofs.OpcodeLemmas.{numbers_distinct}
use Rattle.bx_ops.proofs.laws.numbers_are_distinct.Goals as goal

pub returns : goal.returns
returns c = numbers_distinct
