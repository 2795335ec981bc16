-- Lists of strings and lists of their texts.
use Rattle.bx_terms.proofs.Words.{◌≡◌, ℕ, Bool, List, [], ◌∷◌, map, String, string_bytes, bytes_eq, refl, ◌∙◌, pointwise, string_eq, slice_eq-Decides}
use Rattle.bx_terms.proofs.Words.{bytes_eq-Decides}
use Rattle.std.specs.Bool.{Decides}

module _ {Z : Type 0} where
  same_texts : (xs ys : List (String Z)) → pointwise string_eq xs ys ≡ pointwise bytes_eq (map string_bytes xs) (map string_bytes ys)
  same_texts [] [] = refl
  same_texts (x ∷ xs) (y ∷ ys) = rw (same_texts xs ys)
  same_texts _ _ = refl

  -- `==` of lists of strings is `==` of their texts
  pub strings_decide : (xs ys : List (String Z)) (r : Bool) → r ≡ pointwise string_eq xs ys
      → (texts others : List (List ℕ)) → map string_bytes xs ≡ texts → map string_bytes ys ≡ others → Decides r (texts ≡ others)
  strings_decide xs ys r e texts others p q = slice_eq-Decides bytes_eq-Decides texts others r (e ∙ same_texts xs ys ∙ (λ i. pointwise bytes_eq (p i) (q i)))
