use Rattle.bx_bifs.proofs.Words.{ap, guard_one, number_or_badarg}
use Rattle.bx_bifs.proofs.TermLaws.{length_listed, no_length}
use Rattle.bx_bifs.proofs.laws.terms.lengths.Goals as goal

pub returns-clause-proper : goal.returns-clause-proper
unfolding guard_one
returns-clause-proper c ts = ap number_or_badarg (length_listed ts)

pub returns-clause-others : goal.returns-clause-others
unfolding guard_one
returns-clause-others c t apart = ap number_or_badarg (no_length t apart)
