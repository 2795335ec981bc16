-- A spelling that a delimiter follows is taken, and no more.
use Rattle.bx_text_laws.proofs.Commons.{◌≡◌, ◌≢◌, ℕ, suc, ◌+◌, ◌<◌, Bool, true, false, eqb, ◌||◌, pos, neg_ℤ, List, [], ◌∷◌, ◌++◌, take, drop, length, Ok, refl, ap, ◌∙◌, subst, arith, codes}
use Rattle.bx_text_laws.proofs.Commons.{append_assoc, drop_at, length-append, list_all, prefix_len, both_ways, or_right, cond_both, nat_tests, is_digit, is_name}
use Rattle.bx_text_laws.proofs.Commons.{Place, after, Token, token_at, exponent_len, name_len, word, is_comma, is_bar, is_arrow, is_colon, is_slash, closes_tuple, closes_list}
use Rattle.bx_text_laws.proofs.Commons.{closes_binary, Spelling, Minus, no_minus, a_minus, Exponent, full_stop, the_word_fun, negative, float, bare_atom, quoted_atom, string}
use Rattle.bx_text_laws.proofs.Commons.{meant}
use Rattle.bx_text.specs.Named as named
use Rattle.std.proofs.Common.{ℤ, negsuc}
use Rattle.bx_text.specs.Printed.{whole_decimal, integer_text}
use Rattle.bx_text.specs.Token as token
use Rattle.bx_text_laws.specs.Spelling.{integer}
use Rattle.bx_text_laws.proofs.Frame.{on}
use Rattle.bx_text_laws.proofs.Runs.{digits_of, unsigned}
use Rattle.bx_text_laws.proofs.NumbersFound.{exponent_is, float_reads}
use Rattle.bx_text_laws.proofs.Quotes.{atom_quoting, text_quoting, quote_exact}
use Rattle.bx_text_laws.proofs.Printing.{Delimits, Exactly, decimal_is, numeral_exact, word_exact}

-- no exponent begins where no name does
no_exponent_from : (rest : List ℕ) → name_len rest ≡ 0 → exponent_len rest ≡ 0
no_exponent_from [] e = refl
no_exponent_from (b ∷ bs) e = cond_both (is_name b) _ _ (λ n. n ≡ 0 → exponent_len (b ∷ bs) ≡ 0) (λ _ g. absurd (omega (arith, g))) (λ i _. rw (no_e b i)) e
  where
    no_e : (b : ℕ) → is_name b ≡ false → (eqb b 101 || eqb b 69) ≡ false
    no_e b e = grind (arith, nat_tests)

float_exact : {front es : List ℕ} → Minus front → (ds fs rest : List ℕ) → list_all is_digit ds ≡ true → 0 < length ds → list_all is_digit fs ≡ true → 0 < length fs → Exponent es → Delimits rest
    → Exactly (front ++ (ds ++ (46 ∷ (fs ++ es)))) token.float rest
float_exact {front} {es} mi ds fs rest a l b k ex d at line =
    let bytes : List ℕ = front ++ (ds ++ (46 ∷ (fs ++ es))) in
    let N : ℕ = length front + length ds + (suc (length fs) + prefix_len is_digit (es ++ rest)) + exponent_len (drop (prefix_len is_digit (es ++ rest)) (es ++ rest)) in
    let whole : front ++ (ds ++ (46 ∷ (fs ++ (es ++ rest)))) ≡ bytes ++ rest = simp append_assoc in
    let long : length bytes ≡ N =
    omega (arith, (exponent_is ex rest).1 d.digits (no_exponent_from rest d.name), length-append front (ds ++ (46 ∷ (fs ++ es))), length-append ds (46 ∷ (fs ++ es)), length-append fs es) in
    subst (λ text. (u : Token) × (q : Place) × (token_at (on text at line) ≡ Ok (u, q)) × (q.rest ≡ rest) × (meant u ≡ token.float)) whole
    (token.float, _, float_reads mi ds fs (es ++ rest) at line a l b k, ap (λ ws. drop N ws) whole ∙ drop_at bytes rest N long, refl)

-- the word `fun`
pub fun_len : (rest : List ℕ) → name_len (codes "fun" ++ rest) ≡ 3 + name_len rest
fun_len rest = omega arith

fun_exactly : (rest : List ℕ) → Delimits rest → Exactly (codes "fun") named.the_word_fun rest
fun_exactly rest d at line =
    let p : Place = on (codes "fun" ++ rest) at line in
    let count : name_len (codes "fun" ++ rest) ≡ 3 = omega (arith, d.name, fun_len rest) in
    (word (take (name_len (codes "fun" ++ rest)) p.rest), after p (name_len (codes "fun" ++ rest)), refl, ap (λ n. drop n p.rest) count, ap (λ n. meant (word (take n p.rest))) count)

-- marks that end what stands before them, and tokens that nothing goes on in
abbrev pub shuts : Token → Bool
shuts t = is_comma t || (closes_tuple t || (closes_list t || (closes_binary t || (is_bar t || (is_arrow t || (is_colon t || is_slash t))))))

abbrev opens : Token → Bool
opens (token.text b) = true
opens token.open_tuple = true
opens token.open_list = true
opens token.open_map = true
opens token.open_binary = true
opens t = false

abbrev pub ends : Token → Bool
ends t = opens t || shuts t

pub shuts_ends : (t : Token) → shuts t ≡ true → ends t ≡ true
shuts_ends t e = or_right (opens t) (shuts t) e

-- it is taken and no more, where a delimiter follows or nothing goes on in it
pub exact_by : {bytes : List ℕ} {t : Token} → Spelling bytes t → t ≢ named.full_stop → (rest : List ℕ) → (ends t ≡ false → Delimits rest) → Exactly bytes t rest
exact_by full_stop n rest d = absurd (n refl)
exact_by the_word_fun n rest d = fun_exactly rest (d refl)
exact_by (integer {ds = ds} {n = m} k) n rest d =
    let (a, e, l) = digits_of k refl in subst (λ z. Exactly ds (token.integer z) rest) (unsigned ds a ∙ ap (λ n. pos n) e) (numeral_exact no_minus ds rest a l (d refl))
exact_by (negative {ds = ds} {n = m} k) n rest d =
    let (a, e, l) = digits_of k refl in subst (λ n. Exactly (45 ∷ ds) (token.integer (neg_ℤ (pos n))) rest) e (numeral_exact a_minus ds rest a l (d refl))
exact_by (float {ds = ds} {fs = fs} mi (m, k) (j, l) ex) n rest d =
    let a = digits_of k refl in
    let b = digits_of l refl in
    float_exact mi ds fs rest a.0 a.2 b.0 b.2 ex (d refl)
exact_by (bare_atom x cs {bytes = bytes} small a utf8 other) n rest d = word_exact x cs bytes rest small a utf8 other (d refl)
exact_by (quoted_atom {cs = cs} {vs = vs} {bytes = bytes} q utf8) n rest d = quote_exact 39 token.atom atom_quoting cs vs bytes rest q utf8
exact_by (string {cs = cs} {vs = vs} {bytes = bytes} q utf8) n rest d = quote_exact 34 token.text text_quoting cs vs bytes rest q utf8
exact_by {bytes = bytes} {t = t} s n rest d = λ at line. (t, after (on (bytes ++ rest) at line) (length bytes), refl, drop_at bytes rest (length bytes) refl, refl)

pub solid_exact : {bytes : List ℕ} {t : Token} → Spelling bytes t → ends t ≡ true → (rest : List ℕ) → Exactly bytes t rest
solid_exact {t = t} s e rest = exact_by s (λ f. both_ways (ends t) (ap ends f) e) rest (λ f. absurd (both_ways (ends t) f e))

pub exact : {bytes : List ℕ} {t : Token} → Spelling bytes t → t ≢ named.full_stop → (rest : List ℕ) → Delimits rest → Exactly bytes t rest
exact s n rest d = exact_by s n rest (λ _. d)

pub integer_exact : (n : ℤ) (rest : List ℕ) → Delimits rest → Exactly (integer_text n) (token.integer n) rest
unfolding integer_text whole_decimal
integer_exact (pos n) rest d = exact (integer (decimal_is (suc n) n (omega arith))) (λ e. cc) rest d
integer_exact (negsuc n) rest d = exact (negative (decimal_is (suc (suc n)) (suc n) (omega arith))) (λ e. cc) rest d
