use Rattle.bx_text_laws.proofs.Failing.{fails_by_its_bytes}
use Rattle.bx_text_laws.proofs.laws.faults_are_by_the_bytes.Goals as goal

pub returns : goal.returns
returns c = fails_by_its_bytes
