use Rattle.bx_bifs.proofs.Words.{pos, ap, integer, guard_one}
use Rattle.bx_terms.proofs.Rows.{size_listed}
use Rattle.bx_bifs.proofs.laws.terms.sizes.Goals as goal

pub returns-clause-tuples : goal.returns-clause-tuples
unfolding guard_one
returns-clause-tuples c ts = (ap (λ n. integer (pos n)) (size_listed ts), ap (λ n. integer (pos n)) (size_listed ts))
