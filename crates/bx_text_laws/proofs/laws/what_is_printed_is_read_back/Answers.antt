use Rattle.bx_text_laws.proofs.ReadBack.{read_back}
use Rattle.bx_text_laws.proofs.laws.what_is_printed_is_read_back.Goals as goal

pub returns : goal.returns
returns c = read_back
