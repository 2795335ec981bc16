-- What is quoted stands free between quotes.
use Rattle.std.proofs.Common.{◌≡◌, ◌≢◌, ℕ, ◌≤◌, ◌<◌, true, false, not, eqb, List, [], ◌∷◌, ◌++◌, length, sym, ap, ◌∙◌, subst, refl, arith, append_assoc, append-nil}
use Rattle.std.specs.List.{list_all}
use Rattle.std.proofs.lemmas.Bool.{and_from, and_parts, both_ways}
use Rattle.std.proofs.lemmas.Bool.Decides.{nat_tests}
use Rattle.bx_text.specs.Escapes.{is_octal, is_hex}
use Rattle.bx_text_laws.specs.Characters.{IsControl}
use Rattle.bx_text_laws.specs.Numerals.{Digit}
use Rattle.bx_text_laws.specs.Quoted as quoted
use Rattle.bx_text_laws.specs.Quoted.{IsQuote, Quoted, Named, IsOctal}
use Rattle.bx_text_laws.proofs.Free.{free, freed, free_plain, past_cap}
use Rattle.bx_text_laws.proofs.Escapes.{is_base, numeral_value}

-- digits are neither quotes nor backslashes
pub hex_plain : (q c : ℕ) → IsQuote q → is_hex c ≡ true → (eqb c 92 ≡ false) × (eqb c q ≡ false)
hex_plain q c h e = (grind (arith, nat_tests), grind (arith, nat_tests))

pub hex_uncapped : (c : ℕ) → is_hex c ≡ true → eqb c 94 ≡ false
hex_uncapped c e = grind (arith, nat_tests)

octal_is : (c x : ℕ) → Digit 8 c x → is_octal c ≡ true
octal_is c x h = grind (arith, nat_tests)

pub no_octal_is : (c : ℕ) → is_octal c ≡ false → IsOctal c → ⊥
no_octal_is c e (x, d) = both_ways (is_octal c) e (octal_is c x d)

pub hex_from : (q : ℕ) (ds cs : List ℕ) → IsQuote q → list_all is_hex ds ≡ true → free q cs ≡ true → free q (ds ++ cs) ≡ true
hex_from q [] cs h a f = f
hex_from q (d ∷ ds) cs h a f =
    let all = and_parts (is_hex d) (list_all is_hex ds) a in
    let plain = hex_plain q d h all.0 in
    free_plain q d (ds ++ cs) plain.0 plain.1 (hex_from q ds cs h all.1 f)

based_hex : (b c : ℕ) → b ≤ 16 → is_base b c ≡ true → is_hex c ≡ true
based_hex b c l e = grind (arith, nat_tests)

pub all_hex : (b : ℕ) (ds : List ℕ) → b ≤ 16 → list_all (is_base b) ds ≡ true → list_all is_hex ds ≡ true
all_hex b [] l a = refl
all_hex b (d ∷ ds) l a = let all = and_parts (is_base b d) (list_all (is_base b) ds) a in and_from (is_hex d) (list_all is_hex ds) (based_hex b d l all.0) (all_hex b ds l all.1)

pub different : (c d : ℕ) → c ≢ d → eqb c d ≡ false
different c d n = grind (arith, nat_tests)

control_plain : (q c : ℕ) → IsQuote q → IsControl c → eqb c q ≡ false
control_plain q c h k = grind (arith, nat_tests)

pub brace_plain : (q : ℕ) → IsQuote q → (eqb 123 q ≡ false) × (eqb 125 q ≡ false) × (eqb 120 q ≡ false)
brace_plain q h = (grind (arith, nat_tests), grind (arith, nat_tests), grind (arith, nat_tests))

octals_free : (q : ℕ) (ds cs : List ℕ) → IsQuote q → list_all is_hex ds ≡ true → 0 < length ds → free q cs ≡ true → freed q (ds ++ cs) ≡ true
octals_free q [] cs h a l f = absurd (omega arith)
octals_free q (d ∷ ds) cs h a l f =
    let all = and_parts (is_hex d) (list_all is_hex ds) a in
    past_cap q d (ds ++ cs) (hex_uncapped d all.0) ∙ hex_from q ds cs h all.1 f

pub named_uncapped : {c v : ℕ} → Named c v → eqb c 94 ≡ false
named_uncapped s = grind arith

pub quoted_before : {q : ℕ} {cs vs : List ℕ} → Quoted q cs vs → IsQuote q → (ys : List ℕ) → free q ys ≡ true → free q (cs ++ ys) ≡ true
quoted_before quoted.none h ys f = f
quoted_before (quoted.itself {q = q} {c = x} {cs = cs} other plain k) h ys f =
    free_plain q x (cs ++ ys) (different x 92 plain) (different x q other) (quoted_before k h ys f)
quoted_before (quoted.named {q = q} {c = x} {cs = cs} n k) h ys f = past_cap q x (cs ++ ys) (named_uncapped n) ∙ quoted_before k h ys f
quoted_before (quoted.octal {q = q} {ds = ds} {cs = cs} n l e k) h ys f =
    let v = numeral_value n in
    subst (λ us. freed q us ≡ true) (sym (append_assoc ds cs ys)) (octals_free q ds (cs ++ ys) h (all_hex 8 ds (omega arith) v.0) v.2 (quoted_before k h ys f))
quoted_before (quoted.hex {q = q} {ds = ds} {cs = cs} n l k) h ys f =
    subst (λ us. free q us ≡ true) (sym (append_assoc ds cs ys)) (hex_from q ds (cs ++ ys) h (all_hex 16 ds (omega arith) (numeral_value n).0) (quoted_before k h ys f))
quoted_before (quoted.braced {q = q} {ds = ds} {cs = cs} n s k) h ys f =
    let plain = brace_plain q h in
    let rest : free q (cs ++ ys) ≡ true = quoted_before k h ys f in
    subst (λ us. free q (123 ∷ us) ≡ true) (sym (append_assoc ds (125 ∷ cs) ys))
    (free_plain q 123 (ds ++ 125 ∷ (cs ++ ys)) refl plain.0 (hex_from q ds (125 ∷ (cs ++ ys)) h (all_hex 16 ds (omega arith) (numeral_value n).0) (free_plain q 125 (cs ++ ys) refl plain.1 rest)))
quoted_before (quoted.control {q = q} {c = x} {cs = cs} i k) h ys f =
    and_from (not (eqb x q)) (free q (cs ++ ys)) (ap not (control_plain q x h i)) (quoted_before k h ys f)
quoted_before (quoted.other {q = q} {c = x} {cs = cs} i k) h ys f = past_cap q x (cs ++ ys) (different x 94 i.3) ∙ quoted_before k h ys f

pub quoted_free : {q : ℕ} {cs vs : List ℕ} → Quoted q cs vs → IsQuote q → free q cs ≡ true
quoted_free {q = q} {cs = cs} k h = subst (λ us. free q us ≡ true) (append-nil cs) (quoted_before k h [] refl)
