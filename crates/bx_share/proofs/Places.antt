-- What stands at a place of a row once it was written, or the row got longer.
use Rattle.std.proofs.Common.{◌≡◌, ◌≢◌, ℕ, zero, suc, ◌<◌, List, [], ◌∷◌, ◌++◌, length, refl, ap, arith}
use Rattle.std.specs.Prelude.{Some, slice_get, slice_set}

pub get_set_same : {A : Type 0} (xs : List A) (n : ℕ) (y : A) → n < length xs → slice_get (slice_set xs n y) n ≡ Some y
get_set_same [] n y h = absurd (omega arith)
get_set_same (z ∷ xs) zero y h = refl
get_set_same (z ∷ xs) (suc n) y h = get_set_same xs n y (omega arith)

pub get_set_other : {A : Type 0} (xs : List A) (n k : ℕ) (y : A) → k ≢ n → slice_get (slice_set xs n y) k ≡ slice_get xs k
get_set_other [] n k y e = refl
get_set_other (z ∷ xs) zero zero y e = absurd (e refl)
get_set_other (z ∷ xs) zero (suc k) y e = refl
get_set_other (z ∷ xs) (suc n) zero y e = refl
get_set_other (z ∷ xs) (suc n) (suc k) y e = get_set_other xs n k y (λ same. e (ap (λ m. suc m) same))

pub get_more : {A : Type 0} (xs ys : List A) (i : ℕ) (x : A) → slice_get xs i ≡ Some x → slice_get (xs ++ ys) i ≡ Some x
get_more [] ys i x e = cc
get_more (y ∷ xs) ys zero x e = e
get_more (y ∷ xs) ys (suc i) x e = get_more xs ys i x e

pub get_last : {A : Type 0} (xs : List A) (y : A) → slice_get (xs ++ y ∷ []) (length xs) ≡ Some y
get_last [] y = refl
get_last (x ∷ xs) y = get_last xs y
