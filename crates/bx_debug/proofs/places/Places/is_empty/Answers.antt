use Rattle.bx_debug.proofs.Words.{◌≡◌, ℕ, List, [], ◌∷◌, length, refl, sym, arith, ◌∙◌, pair_cmp}
use Rattle.std.specs.FinSet as set
use Rattle.bx_debug.proofs.Sets.{no_place}
use Rattle.bx_debug.proofs.places.Places.is_empty.Goals as goal

no_key : (keys : List (ℕ × ℕ)) → length keys ≡ 0 → set.from_list {R = pair_cmp} keys ≡ set.empty
no_key [] none = refl
no_key (key ∷ keys) none = absurd (omega arith)

pub returns : goal.returns
returns c = (
  λ empty. sym c.self.view_is ∙ no_key c.self.inside.numbers.keys (c.is_empty.ensures.0 empty),
  λ same. c.is_empty.ensures.1 (no_place c.self.inside.numbers.keys (c.self.view_is ∙ same)),
)
