use Rattle.bx_terms.proofs.AtomLaws.{table_after, number_stays}
use Rattle.bx_terms.proofs.laws.atoms.numbers_stay.Goals as goal

pub returns : goal.returns
returns c = record { table = table_after; numbers = number_stays }
