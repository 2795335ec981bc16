use Rattle.bx_listing.proofs.Lemmas.{row_elements, view_elements}
use Rattle.bx_listing.proofs.shapes.list_elements.Goals as goal

pub returns-in-List-default-None : goal.returns-in-List-default-None
returns-in-List-default-None c = row_elements _ _ _ (rw c.in-List-default-None.field-1-is at c.in-List-default-None.ensures.content)

pub returns-in-List-default-Some : goal.returns-in-List-default-Some
returns-in-List-default-Some c = view_elements _ _ _ _ _ _ c.view-view.ensures.content (rw c.in-List-default-Some.field-1-is at c.in-List-default-Some.ensures.content)
