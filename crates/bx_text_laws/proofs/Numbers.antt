-- Integers and floats.
use Rattle.bx_text_laws.proofs.Commons.{◌≡◌, ℕ, ◌<◌, true, false, eqb, ◌||◌, List, [], ◌∷◌, ◌++◌, drop, length, Result, Ok, refl, sym, ap, ◌∙◌, subst, arith, append_assoc, drop_at, length-append, ◌⊎◌, inl}
use Rattle.bx_text_laws.proofs.Commons.{inr, list_all, prefix_len, eqb-true, cond_both, or_cases, nat_tests, Fault, is_digit, number, Place, Token, token_at, number_at, fraction_len, point_len, sign_len}
use Rattle.bx_text_laws.proofs.Commons.{power_len, exponent_len, ok_same, Spelling, Minus, no_minus, a_minus, Digits, Sign, no_sign, plus, minus, Exponent, no_exponent, an_exponent, negative, float, lines}
use Rattle.bx_text.specs.Token as token
use Rattle.bx_text_laws.specs.Spelling.{integer}
use Rattle.bx_text_laws.proofs.Frame.{on, Spelled, spelled_at, lines-append}
use Rattle.bx_text_laws.proofs.Runs.{run_split, run_append, numeral_is, digits_of, digit_lines, unsigned}
use Rattle.bx_text_laws.proofs.NumbersFound.{first_number, integer_reads, power_is, float_reads}

-- all digits in front
abbrev Run : List ℕ → Type 0
Run xs = (ds zs : List ℕ) × (xs ≡ ds ++ zs) × (list_all is_digit ds ≡ true) × (prefix_len is_digit zs ≡ 0)

digits_split : (xs : List ℕ) → Run xs
digits_split xs = let (ds, zs, e, a, n) = run_split is_digit xs in (ds, zs, e, a, omega (arith, ap (λ ws. prefix_len is_digit ws) e, run_append is_digit ds zs a, n))

digits_are : (ds : List ℕ) → list_all is_digit ds ≡ true → 0 < length ds → Digits ds
digits_are [] a l = absurd (omega arith)
digits_are (d ∷ ds) a l = (_, numeral_is d ds a)

-- the parts behind the digits
abbrev Fraction : List ℕ → Type 0
Fraction xs = (fs zs : List ℕ) × (xs ≡ 46 ∷ (fs ++ zs)) × (list_all is_digit fs ≡ true) × (0 < length fs) × (prefix_len is_digit zs ≡ 0)

fraction_split : (xs : List ℕ) → (fraction_len xs ≡ 0) ⊎ Fraction xs
fraction_split [] = inl refl
fraction_split (b ∷ bs) = cond_both (eqb b 46) _ _ (λ n. (n ≡ 0) ⊎ Fraction (b ∷ bs)) (λ e. by e (digits_split bs)) (λ _. inl refl)
  where
    by : eqb b 46 ≡ true → Run bs → (point_len (prefix_len is_digit bs) ≡ 0) ⊎ Fraction (b ∷ bs)
    by is ([], zs, e, a, z) = inl (ap point_len (ap (λ ws. prefix_len is_digit ws) e ∙ z))
    by is (d ∷ ds, zs, e, a, z) = inr (d ∷ ds, zs, ap (λ b. b ∷ bs) (eqb-true b 46 is) ∙ ap (λ ws. 46 ∷ ws) e, a, omega arith, z)

abbrev SignSplit : List ℕ → ℕ → Type 0
SignSplit bs n = (s ys : List ℕ) × (bs ≡ s ++ ys) × Sign s × (n ≡ length s)

sign_split : (bs : List ℕ) → SignSplit bs (sign_len bs)
sign_split [] = ([], [], refl, no_sign, refl)
sign_split (c ∷ cs) =
    cond_both (eqb c 43 || eqb c 45) _ _ (SignSplit (c ∷ cs))
    (λ e. elim (or_cases (eqb c 43) (eqb c 45) e) [ inl f ↦ (43 ∷ [], cs, ap (λ d. d ∷ cs) (eqb-true c 43 f), plus, refl) | inr f ↦ (45 ∷ [], cs, ap (λ d. d ∷ cs) (eqb-true c 45 f), minus, refl) ])
    (λ _. ([], c ∷ cs, refl, no_sign, refl))

abbrev ExponentSplit : List ℕ → ℕ → Type 0
ExponentSplit xs n = (es zs : List ℕ) × (xs ≡ es ++ zs) × Exponent es × (n ≡ length es)

exponent_split : (xs : List ℕ) → ExponentSplit xs (exponent_len xs)
exponent_split [] = ([], [], refl, no_exponent, refl)
exponent_split (b ∷ bs) = cond_both (eqb b 101 || eqb b 69) _ _ (ExponentSplit (b ∷ bs)) (λ e. by_sign (either_e b e) (sign_split bs)) (λ _. ([], b ∷ bs, refl, no_exponent, refl))
  where
    power : List ℕ → ℕ
    power bs = power_len (sign_len bs) (prefix_len is_digit (drop (sign_len bs) bs))

    either_e : (b : ℕ) → (eqb b 101 || eqb b 69) ≡ true → (b ≡ 101) ⊎ (b ≡ 69)
    either_e b h = grind (arith, nat_tests)

    by_run : (s ys : List ℕ) → (b ≡ 101) ⊎ (b ≡ 69) → bs ≡ s ++ ys → Sign s → sign_len bs ≡ length s → Run ys → ExponentSplit (b ∷ bs) (power bs)
    by_run s ys is e sg m ([], zs, f, a, z) =
        ([], b ∷ bs, refl, no_exponent, ap (λ n. power_len (sign_len bs) n) (ap (λ ws. prefix_len is_digit ws) (ap (λ ws. drop (sign_len bs) ws) e ∙ drop_at s ys (sign_len bs) (sym m) ∙ f) ∙ z))
    by_run s ys is e sg m (d ∷ ds, zs, f, a, z) =
        let whole : bs ≡ s ++ (d ∷ ds ++ zs) = e ∙ ap (λ ws. s ++ ws) f in (
          b ∷ (s ++ d ∷ ds),
          zs,
          ap (λ ws. b ∷ ws) (whole ∙ sym (append_assoc s (d ∷ ds) zs)),
          an_exponent is sg (digits_are (d ∷ ds) a (omega arith)),
          ap power whole ∙ power_is sg (d ∷ ds) zs a (omega arith) ∙ omega (arith, z, length-append s (d ∷ ds)),
        )

    by_sign : (b ≡ 101) ⊎ (b ≡ 69) → SignSplit bs (sign_len bs) → ExponentSplit (b ∷ bs) (power bs)
    by_sign is (s, ys, e, sg, m) = by_run s ys is e sg m (digits_split ys)

-- no line feed stands in them
minus_lines : {front : List ℕ} → Minus front → lines front ≡ 0
minus_lines s = grind arith

exponent_lines : {es : List ℕ} → Exponent es → lines es ≡ 0
exponent_lines no_exponent = refl
exponent_lines (an_exponent {e = e} {s = s} {ds = ds} is sg (n, k)) = rw (no_feed e is) (omega (arith, lines-append s ds, sign_lines sg, digit_lines ds (digits_of k refl).0))
  where
    no_feed : (e : ℕ) → (e ≡ 101) ⊎ (e ≡ 69) → eqb e 10 ≡ false
    no_feed e h = grind (arith, nat_tests)

    sign_lines : {s : List ℕ} → Sign s → lines s ≡ 0
    sign_lines s = grind arith

-- what is taken as a number is one
integer_is : {front : List ℕ} → Minus front → (ds : List ℕ) → list_all is_digit ds ≡ true → 0 < length ds → Spelling (front ++ ds) (token.integer (number (front ++ ds)))
integer_is m [] a l = absurd (omega arith)
integer_is no_minus (d ∷ ds) a l = subst (λ n. Spelling (d ∷ ds) (token.integer n)) (sym (unsigned (d ∷ ds) a)) (integer (numeral_is d ds a))
integer_is a_minus (d ∷ ds) a l = negative (numeral_is d ds a)

by_exponent : {front : List ℕ} → Minus front → (ds fs Z : List ℕ) (at line : ℕ) (x : Token × Place) → list_all is_digit ds ≡ true → 0 < length ds → list_all is_digit fs ≡ true → 0 < length fs → prefix_len is_digit Z ≡ 0
    → ExponentSplit Z (exponent_len Z) → token_at (on (front ++ (ds ++ (46 ∷ (fs ++ Z)))) at line) ≡ Ok x → Spelled (on (front ++ (ds ++ (46 ∷ (fs ++ Z)))) at line) x
by_exponent {front} mi ds fs Z at line x a l b k w (es, W, e, ex, n) h =
    let bytes : List ℕ = front ++ (ds ++ (46 ∷ (fs ++ es))) in
    let p : Place = on (front ++ (ds ++ (46 ∷ (fs ++ Z)))) at line in
    let none : lines bytes ≡ 0 =
    omega (arith, lines-append front (ds ++ (46 ∷ (fs ++ es))), minus_lines mi, lines-append ds (46 ∷ (fs ++ es)), lines-append fs es, digit_lines ds a, digit_lines fs b, exponent_lines ex) in
    let long : exponent_len (drop (prefix_len is_digit Z) Z) ≡ length es = ap (λ k. exponent_len (drop k Z)) w ∙ n in
    subst (Spelled p) (ok_same _ x (sym (float_reads mi ds fs Z at line a l b k) ∙ h))
    (spelled_at p bytes W _ token.float (rw e (simp append_assoc)) (float mi (digits_are ds a l) (digits_are fs b k) ex) (λ e. cc) none
    (omega (arith, w, long, length-append front (ds ++ (46 ∷ (fs ++ es))), length-append ds (46 ∷ (fs ++ es)), length-append fs es)))

by_fraction : {front : List ℕ} → Minus front → (ds Y : List ℕ) (at line : ℕ) (x : Token × Place) → list_all is_digit ds ≡ true → 0 < length ds → prefix_len is_digit Y ≡ 0
    → (fraction_len Y ≡ 0) ⊎ Fraction Y → token_at (on (front ++ (ds ++ Y)) at line) ≡ Ok x → Spelled (on (front ++ (ds ++ Y)) at line) x
by_fraction {front} mi ds Y at line x a l z (inl f) h =
    let p : Place = on (front ++ (ds ++ Y)) at line in
    subst (Spelled p) (ok_same _ x (sym (integer_reads mi ds Y at line a l z f) ∙ h))
    (spelled_at p (front ++ ds) Y _ (token.integer (number (front ++ ds))) (sym (append_assoc front ds Y)) (integer_is mi ds a l) (λ e. cc)
    (omega (arith, lines-append front ds, minus_lines mi, digit_lines ds a)) (sym (length-append front ds)))
by_fraction {front} mi ds Y at line x a l z (inr (fs, Z, e, b, k, w)) h =
    subst (λ Y. token_at (on (front ++ (ds ++ Y)) at line) ≡ Ok x → Spelled (on (front ++ (ds ++ Y)) at line) x) (sym e) (by_exponent mi ds fs Z at line x a l b k w (exponent_split Z)) h

pub a_number : (front X : List ℕ) (at line : ℕ) (x : Token × Place) → Minus front → number_at (on (front ++ X) at line) (length front) ≡ Ok x → Spelled (on (front ++ X) at line) x
a_number front X at line x mi h = by (digits_split X)
  where
    by : Run X → Spelled (on (front ++ X) at line) x
    by ([], Y, e, a, z) =
        let none : prefix_len is_digit (drop (length front) (front ++ X)) ≡ 0 = ap (λ ws. prefix_len is_digit ws) (drop_at front X (length front) refl ∙ e) ∙ z in
        cond_both (eqb (length (front ++ X)) (length front)) _ _ (λ (r : Result (Token × Place) Fault). r ≡ Ok x → Spelled (on (front ++ X) at line) x) (λ _ g. cc) (λ _ g. cc) (rw none at h)
    by (d ∷ ds, Y, e, a, z) =
        subst (λ X. number_at (on (front ++ X) at line) (length front) ≡ Ok x → Spelled (on (front ++ X) at line) x) (sym e)
        (λ h. by_fraction mi (d ∷ ds) Y at line x a (omega arith) z (fraction_split Y) (first_number mi (d ∷ ds) Y at line a (omega arith) ∙ h)) h
