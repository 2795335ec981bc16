-- A fault is caught in the topmost frame that holds a tag, by the lowest register that holds one.
use Rattle.std.proofs.Common.{◌≡◌, ℕ, zero, suc, ◌<◌, List, [], ◌∷◌, refl, ap, ◌∙◌, arith}
use Rattle.std.specs.Prelude.{Option, Some, None}
use Rattle.std.specs.List.{All}
use Rattle.std.proofs.lemmas.List.Elements.{All-cons}
use Rattle.bx_terms.specs.declared.places.Place.{Place}
use Rattle.bx_cells.specs.declared.values.Value.{Value, TheVariants.Tag}
use Rattle.bx_cells.specs.StackFrame.{StackFrame}
use Rattle.bx_cells.specs.Stack.{lowest_tag, unwound, caught}
use Rattle.bx_cells.specs.Tags.{TagAt, HasNoTag, IsLowestTag, IsCaught}

-- a register that holds no tag, below the others
lower : (c : Option Value) (cells : List (Option Value)) (place : Place) → ((l : Place) → c ≡ Some (Tag l) → ⊥) → (k y : ℕ) (other : Place) → k < suc y → ((j : ℕ) (l : Place) → j < y → TagAt cells j l → ⊥) → TagAt (c ∷ cells) k other → ⊥
lower c cells place clear zero y other h rest t = clear other (cc)
lower c cells place clear (suc k) y other h rest t = rest k other (omega arith) t

up : (c : Option Value) (cells : List (Option Value)) (place : Place) → ((l : Place) → c ≡ Some (Tag l) → ⊥) → IsLowestTag cells place → IsLowestTag (c ∷ cells) place
up c cells place clear t = record {
  y = suc t.y;
  holds = t.holds;
  none_lower = λ k other h. lower c cells place clear k t.y other h t.none_lower;
}

pub lowest : (cells : List (Option Value)) (place : Place) → lowest_tag cells ≡ Some place → IsLowestTag cells place
lowest [] place e = cc
lowest (Some (Tag l) ∷ cells) place e = record {
  y = 0;
  holds = let same : l ≡ place = cc in ap (λ p. Some (Some (Tag p))) same;
  none_lower = λ k other h t. absurd (omega arith);
}
lowest (c ∷ cells) place e = up c cells place (λ l h. cc) (lowest cells place e)

-- a row without a lowest tag has none
higher : (c : Option Value) (cells : List (Option Value)) → ((l : Place) → c ≡ Some (Tag l) → ⊥) → HasNoTag cells → HasNoTag (c ∷ cells)
higher c cells clear rest zero place t = clear place (cc)
higher c cells clear rest (suc y) place t = rest y place t

pub no_lowest : (cells : List (Option Value)) → lowest_tag cells ≡ None → HasNoTag cells
no_lowest [] e = λ y place t. cc
no_lowest (Some (Tag l) ∷ cells) e = cc
no_lowest (c ∷ cells) e = higher c cells (λ l h. cc) (no_lowest cells e)

-- one frame more without a tag
onto : (f : StackFrame) (frames kept : List StackFrame) (place : Place) → HasNoTag f.cells → IsCaught frames kept place → IsCaught (f ∷ frames) kept place
onto f frames kept place clear c = record {
  above = f ∷ c.above;
  frame = c.frame;
  below = c.below;
  stack = ap (λ fs. f ∷ fs) c.stack;
  left = c.left;
  none_above = All-cons (λ f. HasNoTag f.cells) f c.above clear c.none_above;
  lowest = c.lowest;
}

caught_here : (f : StackFrame) (frames kept : List StackFrame) (place : Place) → (unwound frames ≡ Some (place, kept) → IsCaught frames kept place) → (o : Option Place) → lowest_tag f.cells ≡ o → caught o (f ∷ frames) (unwound frames) ≡ Some (place, kept) → IsCaught (f ∷ frames) kept place
caught_here f frames kept place rest None clear e = onto f frames kept place (no_lowest f.cells clear) (rest e)
caught_here f frames kept place rest (Some l) tag e = record {
  above = [];
  frame = f;
  below = frames;
  stack = refl;
  left = let same : (place, kept) ≡ (l, f ∷ frames) = cc in ap (λ (z : Place × List StackFrame). z.1) same;
  none_above = λ k d h. absurd (omega arith);
  lowest = let same : (l, f ∷ frames) ≡ (place, kept) = cc in lowest f.cells place (tag ∙ ap (λ (z : Place × List StackFrame). Some z.0) same);
}

pub caught_so : (frames kept : List StackFrame) (place : Place) → unwound frames ≡ Some (place, kept) → IsCaught frames kept place
caught_so [] kept place e = cc
caught_so (f ∷ frames) kept place e = caught_here f frames kept place (caught_so frames kept place) (lowest_tag f.cells) refl e

uncaught_here : (f : StackFrame) (frames : List StackFrame) → (unwound frames ≡ None → All (λ f. HasNoTag f.cells) frames) → (o : Option Place) → lowest_tag f.cells ≡ o → caught o (f ∷ frames) (unwound frames) ≡ None → All (λ f. HasNoTag f.cells) (f ∷ frames)
uncaught_here f frames rest None clear e = All-cons (λ f. HasNoTag f.cells) f frames (no_lowest f.cells clear) (rest e)
uncaught_here f frames rest (Some l) tag e = cc

pub uncaught_so : (frames : List StackFrame) → unwound frames ≡ None → All (λ f. HasNoTag f.cells) frames
uncaught_so [] e = λ k d h. absurd (omega arith)
uncaught_so (f ∷ frames) e = uncaught_here f frames (uncaught_so frames) (lowest_tag f.cells) refl e
