use Rattle.bx_bifs.proofs.Words.{ap, term_or_badarg, guard_two}
use Rattle.bx_bifs.proofs.Lists.{part_listed}
use Rattle.bx_bifs.proofs.laws.terms.elements_from_one.Goals as goal

pub returns-clause-within : goal.returns-clause-within
unfolding guard_two
returns-clause-within c texts place ts = ap term_or_badarg (part_listed ts place)
