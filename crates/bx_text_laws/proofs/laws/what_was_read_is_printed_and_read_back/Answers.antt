use Rattle.bx_text_laws.proofs.Wholes.{read_and_back}
use Rattle.bx_text_laws.proofs.laws.what_was_read_is_printed_and_read_back.Goals as goal

pub returns : goal.returns
returns c = read_and_back
