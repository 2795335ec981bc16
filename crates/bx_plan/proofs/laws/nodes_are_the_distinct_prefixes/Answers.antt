use Rattle.bx_plan.proofs.Prefixes.{nodes_law}
use Rattle.bx_plan.proofs.laws.nodes_are_the_distinct_prefixes.Goals as goal

pub returns : goal.returns
returns c = nodes_law
