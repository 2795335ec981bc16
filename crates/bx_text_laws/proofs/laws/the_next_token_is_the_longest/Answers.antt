use Rattle.bx_text_laws.proofs.Finding.{next_is_longest}
use Rattle.bx_text_laws.proofs.laws.the_next_token_is_the_longest.Goals as goal

pub returns : goal.returns
returns c = next_is_longest
