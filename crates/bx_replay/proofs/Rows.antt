-- Two neighbours of a row in each other's place.
use Rattle.std.proofs.Common.{◌≡◌, ℕ, suc, ◌+◌, ◌≤◌, List, [], ◌∷◌, ◌++◌, length, take, drop, ap, arith, append_assoc}
use Rattle.std.specs.List.{swap}
use Rattle.std.proofs.lemmas.List.{length-drop, length-take-le, length-append, set_at, get_or_at, take-append-drop}
use Rattle.std.proofs.lemmas.List.Edits.{swap_is}

pub swapped : {A : Type 0} (i j : ℕ) (xs : List A) (a b : A) (more : List A) → j ≡ suc i → drop i xs ≡ a ∷ b ∷ more → swap xs i j ≡ take i xs ++ b ∷ a ∷ more
swapped i j xs a b more is e =
    let long : i + 2 ≤ length xs = omega (arith, length-drop i xs, ap length e) in
    let front = take i xs in
    let short : length front ≡ i = length-take-le i xs (omega arith) in
    let near : length (front ++ a ∷ []) ≡ j = omega (arith, length-append front (a ∷ [])) in
    let next : length (front ++ b ∷ []) ≡ j = omega (arith, length-append front (b ∷ [])) in
    cc (
      swap_is xs i j a (omega arith) (omega arith),
      take-append-drop i xs,
      get_or_at front a (b ∷ more) a i short,
      get_or_at (front ++ a ∷ []) b more a j near,
      set_at front a (b ∷ more) b i short,
      set_at (front ++ b ∷ []) b more a j next,
      append_assoc front (a ∷ []) (b ∷ more),
      append_assoc front (b ∷ []) (b ∷ more),
      append_assoc front (b ∷ []) (a ∷ more),
    )
