-- Numbers are read as they are spelled.
use Rattle.bx_plan.proofs.Words.{◌≡◌, ℕ, ◌+◌, ◌-◌, ◌*◌, ◌^◌, ◌<◌, ◌≤◌, true, false, cond, ◌&&◌, List, [], ◌∷◌, Some, None, length, get_or, refl, sym, ap, ◌∙◌, arith, rules, nat_le, ◌↔◌, all_ascii_digits, is_ascii_digit, decimal}
use Rattle.bx_plan.proofs.Words.{and_parts, and_from, cond_both, cond-false, leb-true, le-leb, eqb-false, cases_eq, ne_eqb, digits_from, number_of}
use Rattle.std.proofs.lemmas.Str.Parse.{IsNumeralModel, numerals_by_fold}
use Rattle.std.proofs.lemmas.Fmt.{digits_decimal, digits_value-decimal, decimal-digits_value, decimal_nonempty, first_decimal, decimal_digit}
use Rattle.bx_plan.proofs.Marks.{Lacks}

-- the number that the digits write behind those of n
abbrev value_from : ℕ → List ℕ → ℕ
value_from n [] = n
value_from n (b ∷ bs) = value_from (n * 10 + (b - 48)) bs

abbrev AreDigits : List ℕ → Type 0
AreDigits text = all_ascii_digits text ≡ true

numerals : IsNumeralModel AreDigits (value_from 0)
numerals = numerals_by_fold _ (search rules) value_from (search rules)

value_grows : (n : ℕ) (text : List ℕ) → n ≤ value_from n text
value_grows n [] = omega arith
value_grows n (b ∷ bs) = omega (arith, value_grows (n * 10 + (b - 48)) bs)

abbrev ReadsFrom : ℕ → ℕ → List ℕ → ℕ → Type 0
ReadsFrom most n text m = AreDigits text × (value_from n text ≡ m) × (n ≤ most → m ≤ most)

from_digits : (most n : ℕ) (text : List ℕ) (m : ℕ) → digits_from most n text ≡ Some m → ReadsFrom most n text m
from_digits most n [] m h = let e : n ≡ m = cc in (refl, e, λ small. omega arith)
from_digits most n (b ∷ bs) m h =
    let next = n * 10 + (b - 48) in
    cond_both (is_ascii_digit b && nat_le next most) (digits_from most next bs) None (λ r. r ≡ Some m → ReadsFrom most n (b ∷ bs) m)
    (λ t r. let parts = and_parts (is_ascii_digit b) (nat_le next most) t in
    let more = from_digits most next bs m r in
    (and_from (is_ascii_digit b) (all_ascii_digits bs) parts.0 more.0, more.1, λ small. more.2 (leb-true _ _ parts.1))) (λ f r. cc) h

to_digits : (most n : ℕ) (text : List ℕ) → AreDigits text → value_from n text ≤ most → digits_from most n text ≡ Some (value_from n text)
to_digits most n [] digits small = refl
to_digits most n (b ∷ bs) digits small =
    let parts = and_parts (is_ascii_digit b) (all_ascii_digits bs) digits in
    let fits : nat_le (n * 10 + (b - 48)) most ≡ true = le-leb _ _ (omega (arith, value_grows (n * 10 + (b - 48)) bs)) in
    ap (λ t. cond t (digits_from most (n * 10 + (b - 48)) bs) None) (and_from (is_ascii_digit b) (nat_le (n * 10 + (b - 48)) most) parts.0 fits)
    ∙ to_digits most (n * 10 + (b - 48)) bs parts.1 small

-- it begins with no 0 before other digits
abbrev IsPlain : List ℕ → Type 0
IsPlain text = (0 < length text) × (get_or text 0 0 ≡ 48 → length text ≡ 1)

pub plain_number : (most : ℕ) (text : List ℕ) → IsPlain text → number_of most text ≡ digits_from most 0 text
plain_number most text h2 = grind (arith, cond-false, ne_eqb)

pub number_plain : (most : ℕ) (text : List ℕ) (n : ℕ) → number_of most text ≡ Some n → IsPlain text
number_plain most text n h3 = grind (arith, cond_both, eqb-false)

-- what is read is spelled so, and what is spelled so is read
pub number_spelled : (most n : ℕ) (text : List ℕ) → most < 2 ^ 64 → number_of most text ≡ Some n → (n ≤ most) × (text ≡ decimal n)
number_spelled most n text wide h =
    let plain = number_plain most text n h in
    let read = from_digits most 0 text n (sym (plain_number most text plain) ∙ h) in
    let small : value_from 0 text < 2 ^ 64 = omega (arith, read.1, read.2 (omega arith)) in
    (read.2 (omega arith), sym (decimal-digits_value numerals text read.0 plain.0 plain.1 small) ∙ ap decimal read.1)

pub number_again : (most n : ℕ) → most < 2 ^ 64 → n ≤ most → number_of most (decimal n) ≡ Some n
number_again most n wide small = grind (arith, digits_decimal, numerals, digits_value-decimal, plain_number, decimal_nonempty, decimal_digit, first_decimal, cases_eq, to_digits)

digits_lack : (mark : ℕ) (text : List ℕ) → is_ascii_digit mark ≡ false → AreDigits text → Lacks mark text
digits_lack mark [] h digits = tt
digits_lack mark (b ∷ bs) h digits =
    let parts = and_parts (is_ascii_digit b) (all_ascii_digits bs) digits in
    (ne_eqb b mark (λ e. let same = ap is_ascii_digit e in cc), digits_lack mark bs h parts.1)

pub decimal_lacks : (mark n : ℕ) → is_ascii_digit mark ≡ false → n < 2 ^ 64 → Lacks mark (decimal n)
decimal_lacks mark n h small = digits_lack mark (decimal n) h (digits_decimal numerals n small)

pub number_law : (most n : ℕ) (text : List ℕ) → most < 2 ^ 64 → (number_of most text ≡ Some n) ↔ ((n ≤ most) × (text ≡ decimal n))
number_law most n text wide = (number_spelled most n text wide, λ h. ap (number_of most) h.1 ∙ number_again most n wide h.0)
