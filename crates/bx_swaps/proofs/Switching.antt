-- Switches, counted from left to right.
use Rattle.bx_swaps.proofs.Words.{◌≡◌, ℕ, ◌-◌, ◌≤◌, List, [], ◌∷◌, length, drop, refl, arith, Choice, switches}
use Rattle.std.proofs.lemmas.List.{length-drop}

-- one choice or none
few : (cs : List Choice) → length cs ≤ 1 → switches cs ≡ 0
few [] h = refl
few (c ∷ []) h = refl
few (c ∷ d ∷ cs) h = absurd (omega arith)

pub none_left : (cs : List Choice) (at : ℕ) → length cs ≤ at → switches (drop (at - 1) cs) ≡ 0
none_left cs at h = few (drop (at - 1) cs) (omega (arith, length-drop (at - 1) cs))
