use Rattle.bx_text_laws.proofs.Blanking.{skipped_is_blank}
use Rattle.bx_text_laws.proofs.laws.blanks_are_skipped.Goals as goal

pub returns : goal.returns
returns c = skipped_is_blank
