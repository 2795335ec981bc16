use Rattle.bx_listing.proofs.Fitting.{item_fits}
use Rattle.bx_listing.proofs.laws.a_listed_item_fits_its_opcode.Goals as goal

pub returns : goal.returns
returns c before behind t i is = item_fits before behind t i is
