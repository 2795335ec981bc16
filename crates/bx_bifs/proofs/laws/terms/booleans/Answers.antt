use Rattle.bx_bifs.proofs.TermLaws.{no_operand}
use Rattle.bx_bifs.proofs.laws.terms.booleans.Goals as goal

pub returns-clause-others : goal.returns-clause-others
returns-clause-others c = no_operand
