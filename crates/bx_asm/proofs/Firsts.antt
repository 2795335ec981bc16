-- The first of a row that has something to show.
use Rattle.std.proofs.Common.{◌≡◌, ℕ, zero, suc, ◌+◌, ◌<◌, List, [], ◌∷◌, length, get_or, drop, refl, ap, sym, ◌∙◌, subst, add-one}
use Rattle.std.proofs.lemmas.List.{drop_more}
use Rattle.std.specs.Prelude.{Option, Some, None, IsSome, option_and_then, slice_get}
use Rattle.bx_asm.specs.Limits.{first, or_else}

-- what the rest of a row shows, the row shows
pub first_later : {A B : Type 0} (f : A → Option B) (xs : List A) (i : ℕ) (d : A) → i < length xs → IsSome (first f (drop (i + 1) xs)) → IsSome (first f (drop i xs))
first_later {B = B} f xs i d h later = subst (λ ys. IsSome (first f ys)) (sym (drop_more xs i d h)) (by (f (get_or xs i d)) later)
  where
    by : (o : Option B) → IsSome (first f (drop (i + 1) xs)) → IsSome (or_else o (first f (drop (i + 1) xs)))
    by (Some b) later = refl
    by None later = later

-- an element that shows something, the row shows something
pub first_here : {A B : Type 0} (f : A → Option B) (xs : List A) (i : ℕ) (d : A) → i < length xs → IsSome (f (get_or xs i d)) → IsSome (first f (drop i xs))
first_here {B = B} f xs i d h here = subst (λ ys. IsSome (first f ys)) (sym (drop_more xs i d h)) (by (f (get_or xs i d)) here)
  where
    by : (o : Option B) → IsSome o → IsSome (or_else o (first f (drop (i + 1) xs)))
    by (Some b) here = refl
    by None here = absurd (cc)

first_suc : {A B : Type 0} (f : A → Option B) (xs : List A) (i : ℕ) → first f (drop i xs) ≡ or_else (option_and_then f (slice_get xs i)) (first f (drop (suc i) xs))
first_suc f [] zero = refl
first_suc f [] (suc i) = refl
first_suc f (x ∷ xs) zero = refl
first_suc f (x ∷ xs) (suc i) = first_suc f xs i

-- the rest of a row, and what stands at its front
pub first_at : {A B : Type 0} (f : A → Option B) (xs : List A) (i : ℕ) → first f (drop i xs) ≡ or_else (option_and_then f (slice_get xs i)) (first f (drop (i + 1) xs))
first_at f xs i = first_suc f xs i ∙ ap (λ (n : ℕ). or_else (option_and_then f (slice_get xs i)) (first f (drop n xs))) (sym (add-one i))
