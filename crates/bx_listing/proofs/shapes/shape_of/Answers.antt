use Rattle.bx_listing.proofs.Lemmas.{tuple_shape}
use Rattle.bx_listing.proofs.shapes.shape_of.Goals as goal

pub returns-in-Some : goal.returns-in-Some
returns-in-Some c = tuple_shape _ _ _ _ _ c.in-Tuple-len1-up.ensures.content c.in-Tuple-len1-up.len_at_least c.first-item.is c.in-Some.ensures
