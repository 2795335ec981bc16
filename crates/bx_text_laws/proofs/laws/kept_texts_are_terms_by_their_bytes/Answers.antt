use Rattle.bx_text_laws.proofs.KeptTexts.{kept_texts_stand}
use Rattle.bx_text_laws.proofs.laws.kept_texts_are_terms_by_their_bytes.Goals as goal

pub returns : goal.returns
returns c = kept_texts_stand
