use Rattle.bx_listing_laws.proofs.ReadCode.{read_and_back}
use Rattle.bx_listing_laws.proofs.laws.a_read_code_is_written_and_read_back.Goals as goal

pub returns : goal.returns
returns c = read_and_back
