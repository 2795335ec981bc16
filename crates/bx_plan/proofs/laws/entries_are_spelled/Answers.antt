use Rattle.bx_plan.proofs.Spellings.{entry_law}
use Rattle.bx_plan.proofs.laws.entries_are_spelled.Goals as goal

pub returns : goal.returns
returns c = entry_law
