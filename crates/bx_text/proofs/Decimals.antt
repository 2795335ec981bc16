-- What decimal digits spell never falls when more follow.
use Rattle.std.proofs.Common.{◌≡◌, ℕ, ◌+◌, ◌≤◌, ◌<◌, ◌^◌, List, [], ◌∷◌, length, drop, get_or, arith}
use Rattle.std.proofs.lemmas.List.{at_drop_more}
use Rattle.std.specs.List.{fold}
use Rattle.bx_text.specs.Number.{with_digit}

pub grows : (n : ℕ) (ds : List ℕ) → n ≤ fold with_digit n ds
grows n [] = omega arith
grows n (d ∷ ds) = omega (arith, grows (with_digit n d) ds)

-- one digit more
pub fold_step : (ds : List ℕ) (i n : ℕ) → i < length ds → fold with_digit n (drop i ds) ≡ fold with_digit (with_digit n (get_or ds i 0)) (drop (i + 1) ds)
fold_step ds i n h = at_drop_more (fold with_digit n) ds i 0 h

-- past the bound it stays past
pub stays_large : (ds : List ℕ) (i n m : ℕ) → i < length ds → fold with_digit n (drop i ds) ≡ m → 2 ^ 64 ≤ with_digit n (get_or ds i 0) → 2 ^ 64 ≤ m
stays_large ds i n m h e l = omega (arith, fold_step ds i n h, grows (with_digit n (get_or ds i 0)) (drop (i + 1) ds))
