use Rattle.bx_listing_laws.proofs.WrittenCode.{written_is_read_back}
use Rattle.bx_listing_laws.proofs.laws.a_written_code_is_read_back.Goals as goal

pub returns : goal.returns
returns c = written_is_read_back
