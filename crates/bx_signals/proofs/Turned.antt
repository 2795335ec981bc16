-- Queues, signal by signal.
use Rattle.std.proofs.Common.{◌≡◌, ℕ, suc, ◌+◌, ◌<◌, List, [], ◌∷◌, ◌++◌, length, take, refl, arith}
use Rattle.std.proofs.lemmas.List.{take_more}
use Rattle.std.proofs.lemmas.Option.{get_or_from_slice_get, slice_get_within, slice_get_cases}
use Rattle.std.specs.Prelude.{Some, None, slice_get}

-- as many signals, the same at each place
pub same_everywhere : {A : Type 0} (xs ys : List A) → length xs ≡ length ys → ((k : ℕ) → k < length xs → slice_get xs k ≡ slice_get ys k) → xs ≡ ys
same_everywhere [] [] n same = refl
same_everywhere (x ∷ xs) (y ∷ ys) n same =
    let head : Some x ≡ Some y = same 0 (omega arith) in let behind = same_everywhere xs ys (omega (arith, n)) (λ k here. same (suc k) (omega (arith, here))) in cc
same_everywhere _ _ n same = absurd (omega (arith, n))

-- a place below the length holds something
pub is_there : {A : Type 0} (xs : List A) (k : ℕ) → k < length xs → None ≡ slice_get xs k → ⊥
is_there xs k here none = grind (arith, slice_get_cases xs k)

-- the signals up to one, and that one
pub taken_there : {A : Type 0} (xs old new : List A) (k : ℕ) (x : A) → slice_get xs k ≡ Some x → old ≡ take k xs → new ≡ old ++ x ∷ [] → new ≡ take (k + 1) xs
taken_there xs old new k x here so pushed = rw (take_more xs k x (slice_get_within xs k x here), get_or_from_slice_get xs k x x here, ← so) pushed
