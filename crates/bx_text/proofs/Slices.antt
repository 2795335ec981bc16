-- What is left of a slice from a place on.
use Rattle.std.proofs.Common.{◌≡◌, ℕ, ◌-◌, ◌<◌, List, take, drop, length, length-drop, sym, subst, arith}
use Rattle.std.proofs.lemmas.List.{take_all}
use Rattle.std.proofs.Math.Seq.{take-length}

pub tail_is : (n : ℕ) (xs : List ℕ) → take (length xs - n) (drop n xs) ≡ drop n xs
tail_is n xs = subst (λ k. take k (drop n xs) ≡ drop n xs) (length-drop n xs) (take-length (drop n xs))

-- more than there is, is all
pub take_most : (n : ℕ) (xs : List ℕ) → length xs < n → xs ≡ take n xs
take_most n xs l = sym (take_all n xs (omega arith))
