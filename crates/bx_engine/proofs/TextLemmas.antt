-- Names written piece by piece.
use Rattle.std.proofs.Common.{◌≡◌, ◌∙◌, ◌+◌, ℕ, Bool, true, false, suc, cond, List, [], ◌∷◌, ◌++◌, length, take, drop, refl, sym, ap, arith, take_while, Option, Result, Ok, Err}
use Rattle.std.specs.List.{prefix_len}
use Rattle.std.specs.Prelude.{OnOk}
use Rattle.std.specs.Io.KnownBytes.{Appends}
use Rattle.std.proofs.KnownBytes.{Appends-trans}
use Rattle.std.proofs.lemmas.Grind.{flat_map-append}
use Rattle.std.proofs.lemmas.List.{drop-take, take-append-drop, take-take}
use Rattle.std.proofs.lemmas.List.Folds.{length-prefix_len}
use Rattle.bx_engine.specs.FaultLines.{is_plain, raw_text, spelled}

one_more : (n x : ℕ) (xs : List ℕ) → take (1 + n) (x ∷ xs) ≡ x ∷ take n xs
one_more n x xs = let next : 1 + n ≡ suc n = omega arith in rw next refl

plain_front : (xs : List ℕ) → raw_text (take (prefix_len is_plain xs) xs) ≡ take (prefix_len is_plain xs) xs
plain_front [] = refl
plain_front (x ∷ xs) = go (is_plain x) refl (plain_front xs)
  where
    go : (b : Bool) → is_plain x ≡ b → raw_text (take (prefix_len is_plain xs) xs) ≡ take (prefix_len is_plain xs) xs
        → raw_text (take (cond b (1 + prefix_len is_plain xs) 0) (x ∷ xs)) ≡ take (cond b (1 + prefix_len is_plain xs) 0) (x ∷ xs)
    go true e rest = rw (one_more (prefix_len is_plain xs) x xs, e) (ap (λ ys. x ∷ ys) rest)
    go false e rest = refl

-- what stands before the first control code is written as it is
pub raw_text-plain : (n : ℕ) (xs : List ℕ) → n ≡ length (take_while is_plain xs) → raw_text (take n xs) ≡ take n xs
raw_text-plain n xs e = rw (e, length-prefix_len is_plain xs) (plain_front xs)

-- one part more
pub raw_text-take : (n m : ℕ) (xs : List ℕ) → raw_text (take (n + m) xs) ≡ raw_text (take n xs) ++ raw_text (take m (drop n xs))
raw_text-take n m xs =
    let front : take n (take (n + m) xs) ≡ take n xs = grind (arith, take-take {A = ℕ}) in
    let joined : take n xs ++ take m (drop n xs) ≡ take (n + m) xs = rw (← drop-take n m xs, ← front) (take-append-drop n (take (n + m) xs)) in
    ap raw_text (sym joined) ∙ flat_map-append spelled (take n xs) (take m (drop n xs))

-- a second text behind the first
pub then_appends : {T E : Type 0} (r : Result T E) (a b d : Option (List ℕ)) (bs cs : List ℕ) → Appends a b bs → OnOk r (Appends b d cs) → OnOk r (Appends a d (bs ++ cs))
then_appends (Ok x) a b d bs cs first second = Appends-trans a b d bs cs first second
then_appends (Err e) a b d bs cs first second = tt
