use Rattle.bx_listing.proofs.FirstFaults.{first_faults_are}
use Rattle.bx_listing.proofs.laws.the_first_form_at_fault_is_refused.Goals as goal

pub returns : goal.returns
returns c = first_faults_are
