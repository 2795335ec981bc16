-- What is spelled as a number is taken.
use Rattle.bx_text_laws.proofs.Commons.{◌≡◌, ℕ, suc, ◌+◌, ◌≤◌, ◌<◌, true, false, eqb, ◌||◌, List, [], ◌∷◌, ◌++◌, take, drop, length, Ok, refl, sym, ap, ◌∙◌, subst, arith, append_assoc, drop_at, take_at}
use Rattle.bx_text_laws.proofs.Commons.{drop-drop, length-append, length-drop, ◌⊎◌, list_all, prefix_len, and_parts, ne_eqb, eqb-false, cond_both, nat_tests, is_digit, is_lower, number, Place, after}
use Rattle.bx_text_laws.proofs.Commons.{kind_of, token_by, token_at, number_at, number_by, point_len, fraction_len, sign_len, power_len, exponent_len, Minus, no_minus, a_minus, Sign, no_sign, plus}
use Rattle.bx_text_laws.proofs.Commons.{minus, Exponent, no_exponent, an_exponent}
use Rattle.std.proofs.Math.Seq.{drop-append-add}
use Rattle.std.proofs.lemmas.List.Sums.{prefix_len-le-length}
use Rattle.bx_text.specs.Token as token
use Rattle.bx_text_laws.proofs.Frame.{on, Found}
use Rattle.bx_text_laws.proofs.Runs.{run_append, digits_of}

pub first_number : {front : List ℕ} → Minus front → (ds X : List ℕ) (at line : ℕ) → list_all is_digit ds ≡ true → 0 < length ds
    → token_at (on (front ++ (ds ++ X)) at line) ≡ number_at (on (front ++ (ds ++ X)) at line) (length front)
first_number m [] X at line a l = absurd (omega arith)
first_number no_minus (d ∷ ds) X at line a l = digit_first d (on (d ∷ (ds ++ X)) at line) (and_parts (is_digit d) (list_all is_digit ds) a).0
  where
    not_lower : (d : ℕ) → is_digit d ≡ true → is_lower d ≡ false
    not_lower d e = grind (arith, nat_tests)

    digit_first : (d : ℕ) (p : Place) → is_digit d ≡ true → token_by (kind_of d) p ≡ number_at p 0
    digit_first d p digit = rw (not_lower d digit, digit) refl
first_number a_minus (d ∷ ds) X at line a l = refl

pub digits_on : (front X : List ℕ) (at line n : ℕ) → n ≡ prefix_len is_digit X → 0 < n
    → number_at (on (front ++ X) at line) (length front) ≡ number_by (on (front ++ X) at line) (length front + n) (fraction_len (drop (length front + n) (front ++ X)))
digits_on front X at line n e some = rw (ap (λ ws. prefix_len is_digit ws) (drop_at front X (length front) refl) ∙ sym e, ne_eqb n 0 (λ z. omega (arith, z, some)))

-- an integer is read as one, where neither a digit nor a fraction follows
pub integer_reads : {front : List ℕ} → Minus front → (ds Y : List ℕ) (at line : ℕ) → list_all is_digit ds ≡ true → 0 < length ds → prefix_len is_digit Y ≡ 0 → fraction_len Y ≡ 0
    → token_at (on (front ++ (ds ++ Y)) at line) ≡ Ok (token.integer (number (front ++ ds)), after (on (front ++ (ds ++ Y)) at line) (length front + length ds))
integer_reads {front} mi ds Y at line a l z f =
    let p : Place = on (front ++ (ds ++ Y)) at line in
    let m : ℕ = length front + length ds in
    let left : drop m p.rest ≡ Y = ap (λ ws. drop m ws) (sym (append_assoc front ds Y)) ∙ drop_at (front ++ ds) Y m (length-append front ds) in
    let bytes : take m p.rest ≡ front ++ ds = ap (λ ws. take m ws) (sym (append_assoc front ds Y)) ∙ take_at (front ++ ds) Y m (length-append front ds) in
    first_number mi ds Y at line a l ∙ digits_on front (ds ++ Y) at line (length ds) (omega (arith, run_append is_digit ds Y a, z)) l ∙ ap (λ f. number_by p m f) (ap fraction_len left ∙ f)
    ∙ ap (λ w. Ok (token.integer (number w), after p m)) bytes

-- m bytes of a sign and digits, of which those that are spelled are a part
integer_by : (p : Place) (rest bytes : List ℕ) (m : ℕ) → token_at p ≡ number_by p m (fraction_len (drop m p.rest)) → p.rest ≡ bytes ++ rest → length bytes ≤ m → m ≤ length p.rest
    → Found p (token.integer (number bytes)) rest
integer_by p rest bytes m h e long most =
    cond_both (eqb F 0) _ _ (λ r. token_at p ≡ r → Found p (token.integer (number bytes)) rest)
    (λ z g. ((token.integer (number (take m p.rest)), after p m), g, omega (arith, size, length-drop m p.rest, long), same))
    (λ z g. (
      (token.float, after p N),
      g,
      omega (arith, size, length-drop N p.rest, long),
      λ l. absurd (omega (arith, size, l, eqb-false F 0 z, some (drop m p.rest) (eqb-false F 0 z), length-drop m p.rest, length-drop N p.rest, long)),
    )) h
  where
    F : ℕ
    F = fraction_len (drop m p.rest)

    N : ℕ
    N = m + F + exponent_len (drop (m + F) p.rest)

    size : length p.rest ≡ length bytes + length rest
    size = ap length e ∙ length-append bytes rest

    same : length (drop m p.rest) ≡ length rest → token.integer (number (take m p.rest)) ≡ token.integer (number bytes)
    same l = ap (λ w. token.integer (number w)) (ap (λ ws. take m ws) e ∙ take_at bytes rest m (omega (arith, size, l, length-drop m p.rest, long, most)))

    some : (xs : List ℕ) → (fraction_len xs ≡ 0 → ⊥) → 0 < length xs
    some [] f = absurd (f refl)
    some (x ∷ xs) f = omega arith

pub integer_found : {front : List ℕ} → Minus front → (ds rest : List ℕ) (at line : ℕ) → list_all is_digit ds ≡ true → 0 < length ds
    → Found (on ((front ++ ds) ++ rest) at line) (token.integer (number (front ++ ds))) rest
integer_found {front} mi ds rest at line a l =
    let n : ℕ = length ds + prefix_len is_digit rest in
    subst (λ text. Found (on text at line) (token.integer (number (front ++ ds))) rest) (sym (append_assoc front ds rest))
    (integer_by (on (front ++ (ds ++ rest)) at line) rest (front ++ ds) (length front + n)
    (first_number mi ds rest at line a l ∙ digits_on front (ds ++ rest) at line n (sym (run_append is_digit ds rest a)) (omega arith))
    (sym (append_assoc front ds rest)) (omega (arith, length-append front ds))
    (omega (arith, length-append front (ds ++ rest), length-append ds rest, prefix_len-le-length is_digit rest)))

-- a sign and digits, and what they count
pub power_some : (s n : ℕ) → 0 < n → power_len s n ≡ 1 + s + n
power_some s n h = grind (arith, nat_tests)

counted : (k : ℕ) (ds rest : List ℕ) → list_all is_digit ds ≡ true → 0 < length ds → power_len k (prefix_len is_digit (ds ++ rest)) ≡ 1 + k + (length ds + prefix_len is_digit rest)
counted k ds rest a l = power_some k (prefix_len is_digit (ds ++ rest)) (omega (arith, run_append is_digit ds rest a)) ∙ omega (arith, run_append is_digit ds rest a)

pub power_is : {s : List ℕ} → Sign s → (ds rest : List ℕ) → list_all is_digit ds ≡ true → 0 < length ds
    → power_len (sign_len (s ++ (ds ++ rest))) (prefix_len is_digit (drop (sign_len (s ++ (ds ++ rest))) (s ++ (ds ++ rest)))) ≡ 1 + length s + (length ds + prefix_len is_digit rest)
power_is sg [] rest a l = absurd (omega arith)
power_is no_sign (d ∷ ds) rest a l = rw (no_sign_digit d (and_parts (is_digit d) (list_all is_digit ds) a).0) (counted 0 (d ∷ ds) rest a l)
  where
    no_sign_digit : (d : ℕ) → is_digit d ≡ true → (eqb d 43 || eqb d 45) ≡ false
    no_sign_digit d h = grind (arith, nat_tests)
power_is plus (d ∷ ds) rest a l = counted 1 (d ∷ ds) rest a l
power_is minus (d ∷ ds) rest a l = counted 1 (d ∷ ds) rest a l

-- behind a fraction's digits, and those that happen to follow, an exponent ends no later than the reader does, and there where
-- neither a digit nor an exponent follows
pub exponent_is : {es : List ℕ} → Exponent es → (rest : List ℕ) → (length es ≤ prefix_len is_digit (es ++ rest) + exponent_len (drop (prefix_len is_digit (es ++ rest)) (es ++ rest)))
    × (prefix_len is_digit rest ≡ 0 → exponent_len rest ≡ 0 → prefix_len is_digit (es ++ rest) + exponent_len (drop (prefix_len is_digit (es ++ rest)) (es ++ rest)) ≡ length es)
exponent_is no_exponent rest = (omega arith, λ d e. rw d (omega (arith, e)))
exponent_is (an_exponent {e = e} {s = s} {ds = ds} is sg (n, k)) rest =
    let digits = digits_of k refl in
    let whole : prefix_len is_digit (e ∷ ((s ++ ds) ++ rest)) + exponent_len (drop (prefix_len is_digit (e ∷ ((s ++ ds) ++ rest))) (e ∷ ((s ++ ds) ++ rest))) ≡ 1 + length s + (length ds + prefix_len is_digit rest) =
    rw (append_assoc s ds rest, not_digit e is, is_e e is) (omega (arith, power_is sg ds rest digits.0 digits.2)) in
    (omega (arith, whole, length-append s ds), λ d _. omega (arith, whole, length-append s ds, d))
  where
    not_digit : (e : ℕ) → (e ≡ 101) ⊎ (e ≡ 69) → is_digit e ≡ false
    not_digit e h = grind (arith, nat_tests)

    is_e : (e : ℕ) → (e ≡ 101) ⊎ (e ≡ 69) → (eqb e 101 || eqb e 69) ≡ true
    is_e e h = grind (arith, nat_tests)

-- a float is read as one
pub float_reads : {front : List ℕ} → Minus front → (ds fs Z : List ℕ) (at line : ℕ) → list_all is_digit ds ≡ true → 0 < length ds → list_all is_digit fs ≡ true → 0 < length fs
    → token_at (on (front ++ (ds ++ (46 ∷ (fs ++ Z)))) at line)
    ≡ Ok (token.float, after (on (front ++ (ds ++ (46 ∷ (fs ++ Z)))) at line) (length front + length ds + (suc (length fs) + prefix_len is_digit Z) + exponent_len (drop (prefix_len is_digit Z) Z)))
float_reads {front} mi ds fs Z at line a l b k =
    first_number mi ds X at line a l ∙ digits_on front (ds ++ X) at line (length ds) (omega (arith, run_append is_digit ds X a)) l ∙ rw (fraction, ne_eqb F 0 (λ z. omega (arith, z)), behind)
  where
    X : List ℕ
    X = 46 ∷ (fs ++ Z)

    text : List ℕ
    text = front ++ (ds ++ X)

    m : ℕ
    m = length front + length ds

    F : ℕ
    F = suc (length fs) + prefix_len is_digit Z

    left : drop m text ≡ X
    left = ap (λ ws. drop m ws) (sym (append_assoc front ds X)) ∙ drop_at (front ++ ds) X m (length-append front ds)

    point : (n : ℕ) → 0 < n → point_len n ≡ 1 + n
    point n h = grind (arith, nat_tests)

    fraction : fraction_len (drop m text) ≡ F
    fraction = ap fraction_len left ∙ point (prefix_len is_digit (fs ++ Z)) (omega (arith, run_append is_digit fs Z b)) ∙ omega (arith, run_append is_digit fs Z b)

    behind : drop (m + F) text ≡ drop (prefix_len is_digit Z) Z
    behind = sym (drop-drop F m text) ∙ ap (λ ws. drop F ws) left ∙ drop-append-add (46 ∷ fs) Z (prefix_len is_digit Z)

pub float_found : {front es : List ℕ} → Minus front → (ds fs rest : List ℕ) (at line : ℕ) → list_all is_digit ds ≡ true → 0 < length ds → list_all is_digit fs ≡ true → 0 < length fs → Exponent es
    → Found (on ((front ++ (ds ++ (46 ∷ (fs ++ es)))) ++ rest) at line) token.float rest
float_found {front} {es} mi ds fs rest at line a l b k ex =
    let text : List ℕ = front ++ (ds ++ (46 ∷ (fs ++ (es ++ rest)))) in
    let grouped : (front ++ (ds ++ (46 ∷ (fs ++ es)))) ++ rest ≡ text = simp append_assoc in
    let size : length text ≡ length front + (length ds + (suc (length fs) + (length es + length rest))) =
    omega (arith, length-append front (ds ++ (46 ∷ (fs ++ (es ++ rest)))), length-append ds (46 ∷ (fs ++ (es ++ rest))), length-append fs (es ++ rest), length-append es rest) in
    let n : ℕ = length front + length ds + (suc (length fs) + prefix_len is_digit (es ++ rest)) + exponent_len (drop (prefix_len is_digit (es ++ rest)) (es ++ rest)) in
    subst (λ text. Found (on text at line) token.float rest) (sym grouped) (_, float_reads mi ds fs (es ++ rest) at line a l b k, omega (arith, size, (exponent_is ex rest).0, length-drop n text), λ _. refl)
