-- The letters of a bare atom: one at a time, and as UTF-8.
use Rattle.std.proofs.Common.{◌≡◌, ℕ, zero, suc, ◌+◌, ◌/◌, ◌%◌, ◌≤◌, ◌<◌, Bool, true, false, cond, eqb, ltb, List, [], ◌∷◌, take, drop, refl, sym, ap, subst, arith}
use Rattle.std.specs.Str.{IsUtf8}
use Rattle.std.specs.Char.{encode_utf8}
use Rattle.std.proofs.lemmas.List.{drop-drop}
use Rattle.std.proofs.lemmas.Str.{IsUtf8-encode, IsUtf8-append, IsUtf8-nil, encode_ascii}
use Rattle.std.proofs.lemmas.Bool.{eqb-true}
use Rattle.std.proofs.lemmas.Bool.Decides.{nat_tests}
use Rattle.std.proofs.Math.Utf8.{low_scalar}
use Rattle.bx_text.specs.Bytes.{is_name, is_accented}
use Rattle.bx_text.specs.Lexing.{name_len, letter_width}

-- one letter, and the rest
by_width : (bs : List ℕ) (w : ℕ) → letter_width bs ≡ suc w → name_len bs ≡ suc w + name_len (drop (suc w) bs)
by_width bs w e = grind (arith, nat_tests)

pub no_letter : (bs : List ℕ) → letter_width bs ≡ 0 → name_len bs ≡ 0
no_letter bs e = grind (arith, nat_tests)

-- a turn of the count
pub name_step : (bs : List ℕ) (n w m : ℕ) → w ≡ letter_width (drop n bs) → 0 < w → n + name_len (drop n bs) ≡ m → (n + w) + name_len (drop (n + w) bs) ≡ m
name_step bs n zero m e p h = absurd (omega arith)
name_step bs n (suc w) m e p h = omega (arith, h, by_width (drop n bs) w (sym e), ap name_len (drop-drop (suc w) n bs))

pub name_end : (bs : List ℕ) (n m : ℕ) → 0 ≡ letter_width (drop n bs) → n + name_len (drop n bs) ≡ m → n ≡ m
name_end bs n m e h = omega (arith, h, no_letter (drop n bs) (sym e))

-- an ASCII byte, and the two bytes of a letter from U+00C0 to U+00FF
ascii_ahead : (b : ℕ) (bs : List ℕ) → b < 128 → IsUtf8 bs → IsUtf8 (b ∷ bs)
ascii_ahead b bs l u = IsUtf8-append (b ∷ []) bs (subst IsUtf8 (encode_ascii b l) (IsUtf8-encode b (low_scalar b (omega arith)))) u

accent_bytes : (b : ℕ) → 128 ≤ b → b ≤ 191 → encode_utf8 (b + 64) ≡ 195 ∷ b ∷ []
unfolding encode_utf8
accent_bytes b l h =
    let long : ltb (b + 64) 128 ≡ false = grind (arith, nat_tests) in
    let short : ltb (b + 64) 2048 ≡ true = grind (arith, nat_tests) in
    let high : 192 + (b + 64) / 64 ≡ 195 = omega arith in
    let low : 128 + (b + 64) % 64 ≡ b = omega arith in
    rw (long, short, high, low) refl

accent_ahead : (b : ℕ) (bs : List ℕ) → 128 ≤ b → b ≤ 191 → IsUtf8 bs → IsUtf8 (195 ∷ b ∷ bs)
accent_ahead b bs l h u = IsUtf8-append (195 ∷ b ∷ []) bs (subst IsUtf8 (accent_bytes b l h) (IsUtf8-encode (b + 64) (low_scalar (b + 64) (omega arith)))) u

name_low : (b : ℕ) → is_name b ≡ true → b < 128
name_low b e = grind (arith, nat_tests)

accent_low : (b : ℕ) → is_accented b ≡ true → 128 ≤ b
accent_low b e = grind (arith, nat_tests)

accent_high : (b : ℕ) → is_accented b ≡ true → b ≤ 191
accent_high b e = grind (arith, nat_tests)

one_utf8 : (b : ℕ) (t u : Bool) → is_name b ≡ t → IsUtf8 (take (cond t (1 + 0) (cond u 0 0)) (b ∷ []))
one_utf8 b true u e = ascii_ahead b [] (name_low b e) IsUtf8-nil
one_utf8 b false true e = IsUtf8-nil
one_utf8 b false false e = IsUtf8-nil

two_utf8 : (b c : ℕ) (cs : List ℕ) (m n : ℕ) (t u v : Bool) → is_name b ≡ t → eqb b 195 ≡ u → is_accented c ≡ v → IsUtf8 (take m (c ∷ cs)) → IsUtf8 (take n cs)
    → IsUtf8 (take (cond t (1 + m) (cond u (cond v (2 + n) 0) 0)) (b ∷ c ∷ cs))
two_utf8 b c cs m n true u v et eu ev h g =
    let k : suc m ≡ 1 + m = omega arith in
    subst (λ k. IsUtf8 (take k (b ∷ c ∷ cs))) k (ascii_ahead b (take m (c ∷ cs)) (name_low b et) h)
two_utf8 b c cs m n false true true et eu ev h g =
    let k : suc (suc n) ≡ 2 + n = omega arith in
    subst (λ k. IsUtf8 (take k (b ∷ c ∷ cs))) k
    (subst (λ b. IsUtf8 (b ∷ c ∷ take n cs)) (sym (eqb-true b 195 eu)) (accent_ahead c (take n cs) (accent_low c ev) (accent_high c ev) g))
two_utf8 b c cs m n false true false et eu ev h g = IsUtf8-nil
two_utf8 b c cs m n false false v et eu ev h g = IsUtf8-nil

pub name_utf8 : (bs : List ℕ) → IsUtf8 (take (name_len bs) bs)
name_utf8 [] = IsUtf8-nil
name_utf8 (b ∷ []) = one_utf8 b (is_name b) (eqb b 195) refl
name_utf8 (b ∷ c ∷ cs) = two_utf8 b c cs (name_len (c ∷ cs)) (name_len cs) (is_name b) (eqb b 195) (is_accented c) refl refl refl (name_utf8 (c ∷ cs)) (name_utf8 cs)
