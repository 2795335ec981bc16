use Rattle.bx_debug.proofs.Words.{◌≡◌, ◌∙◌, false, sym, true}
use Rattle.bx_debug.proofs.Sets.{each_holds, holds_each}
use Rattle.bx_debug.proofs.places.Places.same.Goals as goal

pub returns-then-is_subset : goal.returns-then-is_subset
returns-then-is_subset c =
    let one = c.self.inside.numbers in let other = c.other.inside.numbers in (
      λ back. sym c.self.view_is ∙ each_holds one other (c.is_subset.ensures.0 c.if-is_subset.true) (c.is_subset-then-is_subset.ensures.0 back) ∙ c.other.view_is,
      λ same. c.is_subset-then-is_subset.ensures.1 (holds_each other one (c.other.view_is ∙ sym same ∙ sym c.self.view_is)),
    )

pub returns-else-is_subset : goal.returns-else-is_subset
returns-else-is_subset c = (
  λ there. let no : true ≡ false = sym there ∙ c.if-is_subset.false in cc,
  λ same. c.is_subset.ensures.1 (holds_each c.self.inside.numbers c.other.inside.numbers (c.self.view_is ∙ same ∙ sym c.other.view_is)),
)
