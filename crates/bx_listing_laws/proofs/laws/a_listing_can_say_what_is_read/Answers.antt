use Rattle.bx_listing_laws.proofs.ReadCode.{writable_is_read}
use Rattle.bx_listing_laws.proofs.laws.a_listing_can_say_what_is_read.Goals as goal

pub returns : goal.returns
returns c = writable_is_read
