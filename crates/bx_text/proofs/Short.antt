-- The tokens that stand in a text most: names of lower-case letters, and numbers of one digit.
use Rattle.std.proofs.Common.{◌≡◌, ℕ, suc, ◌+◌, ◌-◌, Bool, true, false, cond, ◌&&◌, not, eqb, slice_index_or, List, [], ◌∷◌, drop, pos, Ok, refl, sym, ap, ◌∙◌, subst, arith}
use Rattle.std.specs.List.{prefix_len}
use Rattle.std.proofs.lemmas.List.{drop-drop}
use Rattle.std.proofs.lemmas.Bool.Decides.{nat_tests}
use Rattle.bx_text.specs.Bytes.{is_lower, is_digit, is_name}
use Rattle.bx_text.specs.Number.{with_digit, decimal, signed, number}
use Rattle.bx_text.specs.Place.{Place, after}
use Rattle.bx_text.specs.Short.{is_short}
use Rattle.bx_text.specs.Token.{integer}
use Rattle.bx_text.specs.Lexing.{name_len, accent_len, point_len, fraction_len, number_by, digits_at, number_at}

-- a name's lower-case letters, and the rest of it
lower_front : (bs : List ℕ) → prefix_len is_lower bs + name_len (drop (prefix_len is_lower bs) bs) ≡ name_len bs
lower_front [] = refl
lower_front (b ∷ bs) = by (is_lower b) refl (lower_front bs)
  where
    by : (t : Bool) → is_lower b ≡ t → prefix_len is_lower bs + name_len (drop (prefix_len is_lower bs) bs) ≡ name_len bs
        → cond t (1 + prefix_len is_lower bs) 0 + name_len (drop (cond t (1 + prefix_len is_lower bs) 0) (b ∷ bs)) ≡ name_len (b ∷ bs)
    by true e h =
        let n = prefix_len is_lower bs in
        let named : is_name b ≡ true = grind (arith, nat_tests) in
        let whole : name_len (b ∷ bs) ≡ 1 + name_len bs = ap (λ t. cond t (1 + name_len bs) (cond (eqb b 195) (accent_len bs) 0)) named in
        let next : suc n + name_len (drop n bs) ≡ name_len (b ∷ bs) = omega (arith, h, whole) in
        let k : suc n ≡ 1 + n = omega arith in
        subst (λ m. m + name_len (drop m (b ∷ bs)) ≡ name_len (b ∷ bs)) k next
    by false e h =
        let none : 0 + name_len (b ∷ bs) ≡ name_len (b ∷ bs) = omega arith in none

pub lower_begins : (bs : List ℕ) (n : ℕ) → n ≡ prefix_len is_lower bs → n + name_len (drop n bs) ≡ name_len bs
lower_begins bs n e = subst (λ n. n + name_len (drop n bs) ≡ name_len bs) (sym e) (lower_front bs)

-- the same behind n bytes
pub lower_on : (bs : List ℕ) (n k m : ℕ) → k ≡ prefix_len is_lower (drop n bs) → n + name_len (drop n bs) ≡ m → (n + k) + name_len (drop (n + k) bs) ≡ m
lower_on bs n k m e h = omega (arith, h, lower_begins (drop n bs) k e, ap name_len (drop-drop k n bs))

-- one digit that neither another one nor a point follows
prefix_one : (d c : ℕ) (bs : List ℕ) → is_digit d ≡ true → is_digit c ≡ false → prefix_len is_digit (d ∷ c ∷ bs) ≡ 1
prefix_one d c bs ed ec =
    ap (λ t. cond t (1 + cond (is_digit c) (1 + prefix_len is_digit bs) 0) 0) ed
    ∙ ap (λ t. 1 + cond t (1 + prefix_len is_digit bs) 0) ec

no_fraction : (c : ℕ) (bs : List ℕ) → eqb c 46 ≡ false → fraction_len (c ∷ bs) ≡ 0
no_fraction c bs e = ap (λ t. cond t (point_len (prefix_len is_digit bs)) 0) e

number_one : (d : ℕ) → is_digit d ≡ true → number (d ∷ []) ≡ pos (d - 48)
number_one d e =
    let m : eqb d 45 ≡ false = grind (arith, nat_tests) in
    let v : with_digit 0 d ≡ d - 48 = omega arith in
    ap (λ t. cond t (signed true (decimal [])) (signed false (decimal (d ∷ [])))) m ∙ ap pos v

digit_at : (d c : ℕ) (bs : List ℕ) (at line : ℕ) → is_digit d ≡ true → is_digit c ≡ false → eqb c 46 ≡ false
    → number_at (record { rest = d ∷ c ∷ bs; at = at; line = line }) 0 ≡ Ok (integer (pos (d - 48)), after (record { rest = d ∷ c ∷ bs; at = at; line = line }) 1)
digit_at d c bs at line ed ec ep =
    let p : Place = record { rest = d ∷ c ∷ bs; at = at; line = line } in
    ap (λ n. digits_at p 0 n) (prefix_one d c bs ed ec)
    ∙ ap (λ f. number_by p 1 f) (no_fraction c bs ep)
    ∙ ap (λ n. Ok (integer n, after p 1)) (number_one d ed)

-- the three tests of a short number
three : (a b c : Bool) → (a && not b && not c) ≡ true → (a ≡ true) × (b ≡ false) × (c ≡ false)
three true false false e = (refl, refl, refl)
three true false true e = absurd (cc)
three true true c e = absurd (cc)
three false b c e = absurd (cc)

pub one_digit : (p : Place) → is_short p.rest ≡ true → number_at p 0 ≡ Ok (integer (pos (slice_index_or p.rest 0 0 - 48)), after p 1)
one_digit p e = at_list p.rest e
  where
    at_list : (bs : List ℕ) → is_short bs ≡ true
        → number_at (record { rest = bs; at = p.at; line = p.line }) 0 ≡ Ok (integer (pos (slice_index_or bs 0 0 - 48)), after (record { rest = bs; at = p.at; line = p.line }) 1)
    at_list [] e = absurd (cc)
    at_list (d ∷ []) e = absurd (cc)
    at_list (d ∷ c ∷ bs) e =
        let tests = three (is_digit d) (is_digit c) (eqb c 46) e in
        digit_at d c bs p.at p.line tests.0 tests.1 tests.2
