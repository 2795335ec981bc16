use Rattle.bx_terms.proofs.Utf8.{bytes_by_codes}
use Rattle.bx_terms.proofs.laws.terms.utf8_keeps_order.Goals as goal

pub returns : goal.returns
returns c = bytes_by_codes
