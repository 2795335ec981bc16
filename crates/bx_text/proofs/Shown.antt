-- Integers are printed by their digits.
use Rattle.std.proofs.Common.{◌≡◌, ℕ, zero, suc, ◌+◌, ◌-◌, ◌*◌, ◌/◌, ◌%◌, ◌<◌, ◌≤◌, ◌^◌, Bool, true, false, cond, List, [], ◌∷◌, ◌++◌, drop, refl, sym, ap, ◌∙◌, subst, arith, eqb, codes, append_assoc, append-nil}
use Rattle.std.specs.Prelude.{ℤ, pos, negsuc, nat_lt}
use Rattle.std.specs.Fmt.{decimal as shortest, signed_decimal}
use Rattle.std.specs.List.{fold, list_all, prefix_len}
use Rattle.std.specs.Str.{IsUtf8}
use Rattle.std.proofs.lemmas.Bool.Decides.{nat_tests}
use Rattle.std.proofs.lemmas.Fmt.{decimal_digit, decimal_step}
use lib.Signed.{mag}
use Rattle.bx_text.specs.Bytes.{is_digit}
use Rattle.bx_text.specs.Number.{decimal, signed, is_large, with_digit}
use Rattle.bx_text.specs.Tree.{Tree, IsWhole, IsEnd}
use Rattle.bx_text.specs.Printed.{is_zero, sign_text, digits_within, whole_decimal, integer_text, node_text, row_text, rest_text}
use Rattle.bx_text.proofs.Digits.{both, digits_utf8}

enough : (k n : ℕ) → n < k → n < 2 ^ 64 → digits_within k n ≡ shortest n
unfolding digits_within
enough zero n h small = absurd (omega arith)
enough (suc k) n h small = by (nat_lt n 10) refl (λ below. enough k (n / 10) below (omega arith))
  where
    by : (t : Bool) → nat_lt n 10 ≡ t → (n / 10 < k → digits_within k (n / 10) ≡ shortest (n / 10)) → elim t [ true ↦ (48 + n) ∷ [] | false ↦ digits_within k (n / 10) ++ (48 + n % 10) ∷ [] ] ≡ shortest n
    by true e more = sym (decimal_digit n (grind (arith, nat_tests)))
    by false e more =
        let long : 10 ≤ n = grind (arith, nat_tests) in
        let below : n / 10 < k = omega arith in
        ap (λ ds. ds ++ (48 + n % 10) ∷ []) (more below) ∙ sym (decimal_step n long small)

same : (k j n : ℕ) → n < k → n < j → digits_within k n ≡ digits_within j n
unfolding digits_within
same (suc k) (suc j) n h i = by (nat_lt n 10) refl (same k j (n / 10))
  where
    by : (t : Bool) → nat_lt n 10 ≡ t → (n / 10 < k → n / 10 < j → digits_within k (n / 10) ≡ digits_within j (n / 10)) → ◌≡◌ {A = List ℕ} (elim t [ true ↦ (48 + n) ∷ [] | false ↦ digits_within k (n / 10) ++ (48 + n % 10) ∷ [] ])
        (elim t [ true ↦ (48 + n) ∷ [] | false ↦ digits_within j (n / 10) ++ (48 + n % 10) ∷ [] ])
    by true e more = refl
    by false e more =
        let long : 10 ≤ n = grind (arith, nat_tests) in
        let below : n / 10 < k = omega arith in
        let below_too : n / 10 < j = omega arith in
        ap (λ ds. ds ++ (48 + n % 10) ∷ []) (more below below_too)
same s t n h i = absurd (omega arith)

one_digit : (n : ℕ) → n < 10 → whole_decimal n ≡ (48 + n) ∷ []
unfolding whole_decimal digits_within
one_digit n h = by (nat_lt n 10) refl
  where
    by : (t : Bool) → nat_lt n 10 ≡ t → elim t [ true ↦ (48 + n) ∷ [] | false ↦ digits_within n (n / 10) ++ (48 + n % 10) ∷ [] ] ≡ (48 + n) ∷ []
    by true e = refl
    by false e = absurd (grind (arith, nat_tests))

-- a digit more
one_more : (m d n : ℕ) → 0 < m → d < 10 → n ≡ 10 * m + d → whole_decimal n ≡ whole_decimal m ++ (48 + d) ∷ []
unfolding whole_decimal digits_within
one_more m d n some h is = by (nat_lt n 10) refl
  where
    by : (t : Bool) → nat_lt n 10 ≡ t → elim t [ true ↦ (48 + n) ∷ [] | false ↦ digits_within n (n / 10) ++ (48 + n % 10) ∷ [] ] ≡ digits_within (suc m) m ++ (48 + d) ∷ []
    by true e = absurd (let low : n < 10 = grind (arith, nat_tests) in omega arith)
    by false e =
        let front : n / 10 ≡ m = omega arith in
        let end : n % 10 ≡ d = omega arith in
        ap (λ k. digits_within n k ++ (48 + n % 10) ∷ []) front ∙ ap (λ k. digits_within n m ++ (48 + k) ∷ []) end
        ∙ ap (λ ds. ds ++ (48 + d) ∷ []) (same n (suc m) m (omega arith) (omega arith))

digit_is : (b : ℕ) → is_digit b ≡ true → (48 ≤ b) × (b ≤ 57)
digit_is b e = (grind (arith, nat_tests), grind (arith, nat_tests))

-- digits behind a number that is not 0
folded : (m : ℕ) (ds : List ℕ) → 0 < m → list_all is_digit ds ≡ true → whole_decimal (fold with_digit m ds) ≡ whole_decimal m ++ ds
folded m [] some e = sym (append-nil (whole_decimal m))
folded m (b ∷ bs) some e =
    let parts = both (is_digit b) (list_all is_digit bs) e in
    let digit = digit_is b parts.0 in
    let back : 48 + (b - 48) ≡ b = omega arith in
    folded (with_digit m b) bs (omega arith) parts.1
    ∙ ap (λ ds. ds ++ bs) (one_more m (b - 48) (with_digit m b) some (omega arith) refl ∙ ap (λ c. whole_decimal m ++ c ∷ []) back)
    ∙ append_assoc (whole_decimal m) (b ∷ []) bs

-- digits, without the zeros that they begin with
digits_shown : (ds : List ℕ) → list_all is_digit ds ≡ true → 0 < decimal ds → whole_decimal (decimal ds) ≡ drop (prefix_len is_zero ds) ds
digits_shown [] e some = absurd (omega arith)
digits_shown (b ∷ bs) e some = by (eqb b 48) refl some (digits_shown bs)
  where
    parts : (is_digit b ≡ true) × (list_all is_digit bs ≡ true)
    parts = both (is_digit b) (list_all is_digit bs) e

    by : (t : Bool) → eqb b 48 ≡ t → 0 < fold with_digit (with_digit 0 b) bs
        → (list_all is_digit bs ≡ true → 0 < decimal bs → whole_decimal (decimal bs) ≡ drop (prefix_len is_zero bs) bs) → whole_decimal (fold with_digit (with_digit 0 b) bs) ≡ drop (cond t (1 + prefix_len is_zero bs) 0) (b ∷ bs)
    by true is some rest =
        let none : with_digit 0 b ≡ 0 = grind (arith, nat_tests) in
        let next : 1 + prefix_len is_zero bs ≡ suc (prefix_len is_zero bs) = omega arith in
        let more : 0 < fold with_digit 0 bs = subst (λ n. 0 < fold with_digit n bs) none some in
        ap (λ n. whole_decimal (fold with_digit n bs)) none ∙ rest parts.1 more ∙ ap (λ n. drop n (b ∷ bs)) (sym next)
    by false is some rest =
        let digit = digit_is b parts.0 in
        let unlike : b ≡ 48 → ⊥ = λ e. grind (arith, nat_tests) in
        let first : 0 < with_digit 0 b = omega arith in
        let shown : 48 + with_digit 0 b ≡ b = omega arith in
        folded (with_digit 0 b) bs first parts.1 ∙ ap (λ ds. ds ++ bs) (one_digit (with_digit 0 b) (omega arith) ∙ ap (λ c. c ∷ []) shown)

-- the zeros that digits begin with count nothing
unshown : (ds : List ℕ) → decimal (drop (prefix_len is_zero ds) ds) ≡ decimal ds
unshown [] = refl
unshown (b ∷ bs) = by (eqb b 48) refl (unshown bs)
  where
    by : (t : Bool) → eqb b 48 ≡ t → decimal (drop (prefix_len is_zero bs) bs) ≡ decimal bs → decimal (drop (cond t (1 + prefix_len is_zero bs) 0) (b ∷ bs)) ≡ fold with_digit (with_digit 0 b) bs
    by true is rest =
        let none : with_digit 0 b ≡ 0 = grind (arith, nat_tests) in
        let next : 1 + prefix_len is_zero bs ≡ suc (prefix_len is_zero bs) = omega arith in
        ap (λ n. decimal (drop n (b ∷ bs))) next ∙ rest ∙ ap (λ n. fold with_digit n bs) (sym none)
    by false is rest = refl

-- so digits spell the same number exactly where the others are the same
pub same_shown : (ds es : List ℕ) → list_all is_digit ds ≡ true → list_all is_digit es ≡ true → 0 < decimal ds → 0 < decimal es → decimal ds ≡ decimal es
    → drop (prefix_len is_zero ds) ds ≡ drop (prefix_len is_zero es) es
same_shown ds es d e m n h = sym (digits_shown ds d m) ∙ ap whole_decimal h ∙ digits_shown es e n

pub same_decimal : (ds es : List ℕ) → drop (prefix_len is_zero ds) ds ≡ drop (prefix_len is_zero es) es → decimal ds ≡ decimal es
same_decimal ds es h = sym (unshown ds) ∙ ap decimal h ∙ unshown es

pub large_some : (negative : Bool) (n : ℕ) → is_large (signed negative n) ≡ true → 0 < n
large_some true (suc n) large = omega arith
large_some false (suc n) large = omega arith
large_some s t large = absurd (cc)

-- integers outside 64 bits have one sign and one magnitude
pub signed_apart : (m n : Bool) (a b : ℕ) → is_large (signed m a) ≡ true → is_large (signed n b) ≡ true → signed m a ≡ signed n b → (m ≡ n) × (a ≡ b)
signed_apart true true zero b p q e = cc
signed_apart true true (suc a) zero p q e = cc
signed_apart true true (suc a) (suc b) p q e = let same : a ≡ b = cc in (refl, ap suc same)
signed_apart true false zero b p q e = cc
signed_apart true false (suc a) b p q e = cc
signed_apart false true a zero p q e = cc
signed_apart false true a (suc b) p q e = cc
signed_apart false false a b p q e = let same : a ≡ b = cc in (refl, same)

-- an integer of 64 bits as std prints it
pub small_text : (z : ℤ) → mag z < 2 ^ 63 → signed_decimal z ≡ integer_text z
unfolding integer_text whole_decimal
small_text (pos n) h = sym (enough (suc n) n (omega arith) (omega arith))
small_text (negsuc n) h = ap (λ ds. 45 ∷ ds) (sym (enough (suc (suc n)) (suc n) (omega arith) (omega arith)))

-- an integer outside 64 bits, by its sign and its digits
pub large_text : (negative : Bool) (ds : List ℕ) (z : ℤ) → signed negative (decimal ds) ≡ z → is_large z ≡ true → list_all is_digit ds ≡ true
    → integer_text z ≡ sign_text negative ++ drop (prefix_len is_zero ds) ds
unfolding integer_text
large_text negative ds z is large e = subst (λ z. is_large z ≡ true → integer_text z ≡ sign_text negative ++ drop (prefix_len is_zero ds) ds) is (by negative (decimal ds) refl) large
  where
    by : (t : Bool) (n : ℕ) → n ≡ decimal ds → is_large (signed t n) ≡ true → integer_text (signed t n) ≡ sign_text t ++ drop (prefix_len is_zero ds) ds
    by true (suc n) at l = ap (λ ds. 45 ∷ ds) (ap whole_decimal at ∙ digits_shown ds e (omega arith))
    by false (suc n) at l = ap whole_decimal at ∙ digits_shown ds e (omega arith)
    by s t at l = absurd (cc)

digits_left : (n : ℕ) (ds : List ℕ) → list_all is_digit ds ≡ true → list_all is_digit (drop n ds) ≡ true
digits_left zero ds e = e
digits_left (suc n) [] e = refl
digits_left (suc n) (b ∷ bs) e = digits_left n bs (both (is_digit b) (list_all is_digit bs) e).1

pub shown_utf8 : (n : ℕ) (ds : List ℕ) → list_all is_digit ds ≡ true → IsUtf8 (drop n ds)
shown_utf8 n ds e = digits_utf8 (drop n ds) (digits_left n ds e)

-- a tail stands behind a bar
pub tail_text : (t : Tree) → IsWhole t → rest_text t ≡ codes "|" ++ node_text t
tail_text t w = grind arith

pub tail_ends : (t : Tree) → IsWhole t → IsEnd t
tail_ends t w = grind arith

-- a row without elements is its end
pub end_text : (t : Tree) → IsEnd t → row_text t ≡ rest_text t
end_text t w = grind arith
