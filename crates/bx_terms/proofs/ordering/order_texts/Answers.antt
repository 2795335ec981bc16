use Rattle.std.proofs.Common.{◌∙◌}
use Rattle.bx_terms.proofs.Utf8.{bytes_by_codes}
use Rattle.bx_terms.proofs.ordering.order_texts.Goals as goal

pub returns : goal.returns
returns c = c.cmp.ensures ∙ bytes_by_codes c.args.text.now c.args.other.now c.utf8.text c.utf8.other
