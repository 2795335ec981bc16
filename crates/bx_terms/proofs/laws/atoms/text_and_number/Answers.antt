use Rattle.bx_terms.proofs.AtomLaws.{text_at, number_at}
use Rattle.bx_terms.proofs.laws.atoms.text_and_number.Goals as goal

pub returns : goal.returns
returns c = λ texts text number table. (text_at texts table.distinct text number, number_at texts table.distinct text number)
