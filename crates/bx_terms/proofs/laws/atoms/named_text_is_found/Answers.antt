use Rattle.bx_terms.proofs.AtomLaws.{found_after}
use Rattle.bx_terms.proofs.laws.atoms.named_text_is_found.Goals as goal

pub returns : goal.returns
returns c = found_after
