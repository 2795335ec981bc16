use Rattle.bx_text_laws.proofs.FormsFail.{forms_fail}
use Rattle.bx_text_laws.proofs.laws.forms_are_refused_by_their_first_fault.Goals as goal

pub returns : goal.returns
returns c = forms_fail
