-- Digits, and a sign before them.
use Rattle.std.proofs.Common.{◌≡◌, ℕ, zero, suc, ◌+◌, ◌<◌, Bool, true, false, cond, List, [], ◌∷◌, ◌++◌, take, drop, get_or, refl, sym, ap, ◌∙◌, subst, arith, lit<, eqb, inl, inr, ◌&&◌}
use Rattle.std.specs.List.{prefix_len, list_all}
use Rattle.std.specs.Str.{IsAscii, IsUtf8}
use Rattle.std.proofs.Math.Seq.{take-add}
use Rattle.std.proofs.lemmas.Str.{IsAscii-append}
use Rattle.std.proofs.lemmas.Bool.Decides.{nat_tests}
use Rattle.bx_text.specs.Bytes.{is_digit}
use Rattle.bx_text.specs.Number.{IsSign, is_spelling}
use Rattle.bx_text.specs.Lexing.{kind_of}
use Rattle.bx_text.specs.declared.kinds.Kind.TheVariants as kind
use Rattle.bx_text.proofs.Texts.{utf8_of_ascii}

digit_low : (b : ℕ) → is_digit b ≡ true → b < 128
digit_low b e = grind (arith, nat_tests)

none_ascii : IsAscii []
none_ascii i = lit< tt

ascii_ahead : (b : ℕ) (bs : List ℕ) → b < 128 → IsAscii bs → IsAscii (b ∷ bs)
ascii_ahead b bs l a = IsAscii-append (b ∷ []) bs (λ i. alone i) a
  where
    alone : (i : ℕ) → get_or (b ∷ []) i 0 < 128
    alone zero = l
    alone (suc i) = lit< tt

pub both : (a b : Bool) → (a && b) ≡ true → (a ≡ true) × (b ≡ true)
both true b e = (refl, e)
both false b e = absurd (cc)

digits_ascii : (bs : List ℕ) → list_all is_digit bs ≡ true → IsAscii bs
digits_ascii [] e = none_ascii
digits_ascii (b ∷ bs) e = let parts = both (is_digit b) (list_all is_digit bs) e in ascii_ahead b bs (digit_low b parts.0) (digits_ascii bs parts.1)

spelling_ascii : (bs : List ℕ) → is_spelling bs ≡ true → IsAscii bs
spelling_ascii [] e = none_ascii
spelling_ascii (b ∷ bs) e = by (eqb b 45) refl e
  where
    by : (t : Bool) → eqb b 45 ≡ t → cond t (list_all is_digit bs) (list_all is_digit (b ∷ bs)) ≡ true → IsAscii (b ∷ bs)
    by true is e = ascii_ahead b bs (grind (arith, nat_tests)) (digits_ascii bs e)
    by false is e = digits_ascii (b ∷ bs) e

pub spelling_utf8 : (bs : List ℕ) → is_spelling bs ≡ true → IsUtf8 bs
spelling_utf8 bs e = utf8_of_ascii bs (spelling_ascii bs e)

pub digits_utf8 : (bs : List ℕ) → list_all is_digit bs ≡ true → IsUtf8 bs
digits_utf8 bs e = utf8_of_ascii bs (digits_ascii bs e)

ahead : (b : ℕ) (bs : List ℕ) (n : ℕ) (t : Bool) → is_digit b ≡ t → list_all is_digit (take n bs) ≡ true → list_all is_digit (take (cond t (1 + n) 0) (b ∷ bs)) ≡ true
ahead b bs n true e a =
    let k : suc n ≡ 1 + n = omega arith in
    subst (λ k. list_all is_digit (take k (b ∷ bs)) ≡ true) k (ap (λ t. t && list_all is_digit (take n bs)) e ∙ a)
ahead b bs n false e a = refl

digits_counted : (bs : List ℕ) → list_all is_digit (take (prefix_len is_digit bs) bs) ≡ true
digits_counted [] = refl
digits_counted (b ∷ bs) = ahead b bs (prefix_len is_digit bs) (is_digit b) refl (digits_counted bs)

-- digits are a spelling, and a minus sign before digits
unsigned : (bs : List ℕ) → list_all is_digit bs ≡ true → is_spelling bs ≡ true
unsigned [] e = refl
unsigned (b ∷ bs) e = by (eqb b 45) refl
  where
    by : (t : Bool) → eqb b 45 ≡ t → cond t (list_all is_digit bs) (list_all is_digit (b ∷ bs)) ≡ true
    by true is = (both (is_digit b) (list_all is_digit bs) e).1
    by false is = e

signed : (front digits : List ℕ) → IsSign front → list_all is_digit digits ≡ true → is_spelling (front ++ digits) ≡ true
signed front digits (inl e) d = rw e (unsigned digits d)
signed front digits (inr e) d = rw e d

pub number_spelled : (bs : List ℕ) (sign n : ℕ) → IsSign (take sign bs) → n ≡ prefix_len is_digit (drop sign bs) → is_spelling (take (sign + n) bs) ≡ true
number_spelled bs sign n a e =
    rw (take-add sign n bs)
    (signed (take sign bs) (take n (drop sign bs)) a (subst (λ n. list_all is_digit (take n (drop sign bs)) ≡ true) (sym e) (digits_counted (drop sign bs))))

minus_is : (b : ℕ) → kind_of b ≡ kind.Minus → b ≡ 45
minus_is b e = grind (arith, nat_tests)

-- only a minus sign begins as one does
pub minus_sign : (b : ℕ) (bs : List ℕ) → kind_of b ≡ kind.Minus → IsSign (take 1 (b ∷ bs))
minus_sign b bs e = inr (ap (λ c. c ∷ []) (minus_is b e))
