use Rattle.bx_text_laws.proofs.NextFailing.{next_fails}
use Rattle.bx_text_laws.proofs.laws.the_next_fault_is_by_the_bytes.Goals as goal

pub returns : goal.returns
returns c = next_fails
