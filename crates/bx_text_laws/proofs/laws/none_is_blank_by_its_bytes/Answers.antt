use Rattle.bx_text_laws.proofs.Sentences.{none_is_blank}
use Rattle.bx_text_laws.proofs.laws.none_is_blank_by_its_bytes.Goals as goal

pub returns : goal.returns
returns c = none_is_blank
