-- What a look-up finds.
use Rattle.std.proofs.Common.{◌≡◌, ◌↔◌, ℕ, ◌==◌, ◌&&◌, Bool, true, false, cond, List, [], ◌∷◌, Option, None, Some, MatchOption, bytes_eq, length, refl, sym, ap, ◌∙◌}
use Rattle.std.specs.List.{find}
use Rattle.std.proofs.lemmas.Bool.Decides.{Decides-eqb}
use Rattle.std.proofs.lemmas.Slice.Eq.{bytes_eq-Decides}

-- what is found passes the test
pub find_passes : {X : Type 0} (test : X → Bool) (xs : List X) (x : X) → find test xs ≡ Some x → test x ≡ true
find_passes test [] x e = cc
find_passes {X} test (y ∷ ys) x e = first (find_passes test ys x) (test y) refl e
  where
    first : (find test ys ≡ Some x → test x ≡ true) → (b : Bool) → test y ≡ b → cond b (Some y) (find test ys) ≡ Some x → test x ≡ true
    first later true passes e = cc
    first later false fails e = later e

-- a result is what a look-up finds if it is the one thing with a property, or there is none with it
pub found_is : {X : Type 0} (P : X → Type 0) (found : Option X) → ((x : X) → (found ≡ Some x) ↔ P x)
    → (result : Option X) → MatchOption result ((x : X) → P x → ⊥) P → result ≡ found
found_is P None law None h = refl
found_is P (Some x) law None h = absurd (h x ((law x).0 refl))
found_is P found law (Some y) h = sym ((law y).1 h)

-- tests that answer the same find the same
pub find_same : {X : Type 0} (one other : X → Bool) → ((x : X) → one x ≡ other x) → (xs : List X) → find one xs ≡ find other xs
find_same one other same [] = refl
find_same one other same (x ∷ xs) = ap (λ b. cond b (Some x) (find one xs)) (same x) ∙ ap (cond (other x) (Some x)) (find_same one other same xs)

-- texts that are the same are of the same length
pub by_length : (xs ys : List ℕ) → ((length xs == length ys) && bytes_eq xs ys) ≡ bytes_eq xs ys
by_length xs ys = go (bytes_eq xs ys) refl
  where
    never : (b : Bool) → (b && false) ≡ false
    never true = refl
    never false = refl

    go : (b : Bool) → bytes_eq xs ys ≡ b → ((length xs == length ys) && b) ≡ b
    go true same = ap (λ b. b && true) ((Decides-eqb (length xs) (length ys)).1 (ap length ((bytes_eq-Decides xs ys).0 same)))
    go false other = never (length xs == length ys)
