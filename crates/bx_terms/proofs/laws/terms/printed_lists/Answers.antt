use Rattle.bx_terms.proofs.Joined.{list_text}
use Rattle.bx_terms.proofs.laws.terms.printed_lists.Goals as goal

pub returns-clause-proper : goal.returns-clause-proper
returns-clause-proper c = list_text
