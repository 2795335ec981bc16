use Rattle.bx_text_laws.proofs.Failing.{no_next_is_refused}
use Rattle.bx_text_laws.proofs.laws.the_next_token_is_refused_by_its_bytes.Goals as goal

pub returns : goal.returns
returns c = no_next_is_refused
