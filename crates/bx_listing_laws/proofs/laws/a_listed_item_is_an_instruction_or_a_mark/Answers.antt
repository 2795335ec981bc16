use Rattle.bx_listing_laws.proofs.Rows.{listed_item_is}
use Rattle.bx_listing_laws.proofs.laws.a_listed_item_is_an_instruction_or_a_mark.Goals as goal

pub returns : goal.returns
returns c = listed_item_is
