use Rattle.bx_text_laws.proofs.Sentences.{forms_are_sentences}
use Rattle.bx_text_laws.proofs.laws.forms_are_terms_by_their_bytes.Goals as goal

pub returns : goal.returns
returns c = forms_are_sentences
