use Rattle.bx_text_laws.proofs.Spoiling.{blanks_fail}
use Rattle.bx_text_laws.proofs.laws.comments_are_refused_by_their_bytes.Goals as goal

pub returns : goal.returns
returns c = blanks_fail
