use Rattle.bx_terms.proofs.Words.{same_from_decides, same_decides}
use Rattle.bx_terms.proofs.terms.TermPartialEq.eq.Goals as goal

pub returns : goal.returns
returns c = same_from_decides _ _ c.same.ensures (same_decides c.args.self.now c.args.other.now)
