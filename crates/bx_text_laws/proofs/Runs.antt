-- Runs of digits.
use Rattle.bx_text_laws.proofs.Commons.{◌≡◌, ℕ, ◌+◌, ◌-◌, ◌*◌, ◌<◌, Bool, true, false, eqb, pos, List, [], ◌∷◌, ◌++◌, length, refl, sym, ap, ◌∙◌, subst, arith, append_assoc, append-nil, fold, list_all}
use Rattle.bx_text_laws.proofs.Commons.{prefix_len, and_parts, and_from, cond_both, nat_tests, is_digit, number, decimal, Digit, Numeral, one_digit, digit_more, lines}
use Rattle.std.proofs.lemmas.List.{length-append}
use Rattle.std.proofs.lemmas.List.Folds.{list_all-append}
use Rattle.std.proofs.lemmas.List.Sums.{fold-append}
use Rattle.bx_text.specs.Number.{with_digit}

-- the longest run of elements that pass, and what follows it
abbrev Front : (ℕ → Bool) → List ℕ → ℕ → Type 0
Front p xs n = (ys zs : List ℕ) × (xs ≡ ys ++ zs) × (list_all p ys ≡ true) × (n ≡ length ys)

pub run_split : (p : ℕ → Bool) (xs : List ℕ) → (ys zs : List ℕ) × (xs ≡ ys ++ zs) × (list_all p ys ≡ true) × (prefix_len p xs ≡ length ys)
run_split p [] = ([], [], refl, refl, refl)
run_split p (x ∷ xs) =
    let (ys, zs, e, a, n) = run_split p xs in
    cond_both (p x) _ _ (Front p (x ∷ xs)) (λ is. (x ∷ ys, zs, ap (λ ws. x ∷ ws) e, and_from (p x) (list_all p ys) is a, omega (arith, n))) (λ _. ([], x ∷ xs, refl, refl, refl))

pub run_append : (p : ℕ → Bool) (xs ys : List ℕ) → list_all p xs ≡ true → prefix_len p (xs ++ ys) ≡ length xs + prefix_len p ys
run_append p [] ys a = omega arith
run_append p (x ∷ xs) ys a = let both = and_parts (p x) (list_all p xs) a in rw both.0 (omega (arith, run_append p xs ys both.1))

-- decimal digits and numerals
digit_counts : (c : ℕ) → is_digit c ≡ true → Digit 10 c (c - 48)
digit_counts c e = grind (arith, nat_tests)

counts_digit : (c x : ℕ) → Digit 10 c x → is_digit c ≡ true
counts_digit c x d = grind (arith, nat_tests)

counts_value : (c x : ℕ) → Digit 10 c x → c - 48 ≡ x
counts_value c x d = grind arith

numeral_more : (front ds : List ℕ) (n : ℕ) → Numeral 10 front n → list_all is_digit ds ≡ true → Numeral 10 (front ++ ds) (fold with_digit n ds)
numeral_more front [] n k a = subst (λ cs. Numeral 10 cs n) (sym (append-nil front)) k
numeral_more front (d ∷ ds) n k a =
    let both = and_parts (is_digit d) (list_all is_digit ds) a in
    subst (λ cs. Numeral 10 cs (fold with_digit (with_digit n d) ds)) (append_assoc front (d ∷ []) ds)
    (numeral_more (front ++ d ∷ []) ds (with_digit n d) (digit_more k (digit_counts d both.0)) both.1)

pub numeral_is : (d : ℕ) (ds : List ℕ) → list_all is_digit (d ∷ ds) ≡ true → Numeral 10 (d ∷ ds) (decimal (d ∷ ds))
numeral_is d ds a =
    let both = and_parts (is_digit d) (list_all is_digit ds) a in
    let first : d - 48 ≡ with_digit 0 d = omega arith in
    numeral_more (d ∷ []) ds (with_digit 0 d) (subst (Numeral 10 (d ∷ [])) first (one_digit (digit_counts d both.0))) both.1

pub push_all : (p : ℕ → Bool) (xs : List ℕ) (y : ℕ) → list_all p xs ≡ true → p y ≡ true → list_all p (xs ++ y ∷ []) ≡ true
push_all p xs y a b = list_all-append p xs (y ∷ []) ∙ and_from (list_all p xs) _ a (and_from (p y) true b refl)

-- a numeral's digits, and their number
pub digits_of : {b n : ℕ} {ds : List ℕ} → Numeral b ds n → b ≡ 10 → (list_all is_digit ds ≡ true) × (decimal ds ≡ n) × (0 < length ds)
digits_of (one_digit {base = b} {c = c} {x = x} d) e =
    let t : Digit 10 c x = subst (λ b. Digit b c x) e d in
    (and_from (is_digit c) true (counts_digit c x t) refl, omega (arith, counts_value c x t), omega arith)
digits_of (digit_more {base = b} {n = n} {c = c} {x = x} {cs = cs} k d) e =
    let t : Digit 10 c x = subst (λ b. Digit b c x) e d in
    let front = digits_of k e in
    let value : decimal cs ≡ n = front.1 in
    let last : with_digit n c ≡ b * n + x = omega (arith, counts_value c x t, ap (λ b. b * n) e) in
    (push_all is_digit cs c front.0 (counts_digit c x t), fold-append with_digit 0 cs (c ∷ []) ∙ ap (λ m. with_digit m c) value ∙ last, omega (arith, length-append cs (c ∷ [])))

pub digit_lines : (ds : List ℕ) → list_all is_digit ds ≡ true → lines ds ≡ 0
digit_lines [] a = refl
digit_lines (d ∷ ds) a = let both = and_parts (is_digit d) (list_all is_digit ds) a in rw (not_feed d both.0) (digit_lines ds both.1)
  where
    not_feed : (b : ℕ) → is_digit b ≡ true → eqb b 10 ≡ false
    not_feed b e = grind (arith, nat_tests)

pub unsigned : (ds : List ℕ) → list_all is_digit ds ≡ true → number ds ≡ pos (decimal ds)
unsigned [] a = refl
unsigned (d ∷ ds) a = rw (not_minus d (and_parts (is_digit d) (list_all is_digit ds) a).0)
  where
    not_minus : (d : ℕ) → is_digit d ≡ true → eqb d 45 ≡ false
    not_minus d e = grind (arith, nat_tests)
