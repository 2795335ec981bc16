-- What is left of an escape at the end of characters.
use Rattle.bx_text_laws.proofs.Commons.{◌≡◌, ℕ, Bool, true, false, cond, eqb, ◌&&◌, List, [], ◌∷◌, ◌++◌, refl, sym, ap, ◌∙◌, subst, arith, append_assoc, ◌⊎◌, inl, inr, fold, list_all, and_parts, Digit}
use Rattle.bx_text_laws.proofs.Commons.{one_digit, IsQuote, Quoted, NoOctal, IsOctal}
use Rattle.bx_text.specs.Named as named
use Rattle.bx_text.specs.Named.{Open}
use Rattle.bx_text.specs.Escapes.{digit, is_hex, is_scalar, step, is_bad, may_go_on}
use Rattle.bx_text.specs.Escapes as escapes
use Rattle.bx_text_laws.specs.Refusals.{Unfinished, slash, hex, hex_digit, brace, braced, control}
use Rattle.bx_text_laws.proofs.Free.{free, free_plain}
use Rattle.bx_text_laws.proofs.Escapes.{Turn, Tests, first_hex, numeral_value}
use Rattle.bx_text_laws.proofs.Means.{over_quoted}
use Rattle.bx_text_laws.proofs.Readings.{quoted_before, hex_from, all_hex, brace_plain, no_octal_is}
use Rattle.bx_text_laws.proofs.Unclosed.{Left, then_letter, letter}

-- behind what is quoted it stands as at the beginning
no_octal_slash : (es : List ℕ) → Left es → NoOctal es
no_octal_slash es (inl e) = subst NoOctal (sym e) tt
no_octal_slash es (inr u) = by u
  where
    none : IsOctal 92 → ⊥
    none = no_octal_is 92 refl

    by : {es : List ℕ} → Unfinished es → NoOctal es
    by slash = none
    by u = none

pub leaves : {q : ℕ} {cs vs : List ℕ} → Quoted q cs vs → (es : List ℕ) → Left es → Turn named.nothing (cs ++ es) vs named.nothing es
leaves k es l = over_quoted k es (no_octal_slash es l)

-- its digits
hex_of : (c x : ℕ) → Digit 16 c x → is_hex c ≡ true
hex_of c x d = (and_parts (is_hex c) true (numeral_value (one_digit {base = 16} {c = c} {x = x} d)).0).0

over_digits : (p : Open → Bool) (b : Bool) → ((v : ℕ) → p (named.braced v) ≡ b) → (ds : List ℕ) (v : ℕ) → list_all is_hex ds ≡ true → p (fold step (named.braced v) ds) ≡ b
over_digits p b at [] v a = at v
over_digits p b at (d ∷ ds) v a =
    let both = and_parts (is_hex d) (list_all is_hex ds) a in
    ap (λ (t : Bool). p (fold step (cond t (named.braced (escapes.braced v (digit d))) (cond (eqb d 125 && is_scalar v) named.nothing named.bad)) ds)) both.0 ∙ over_digits p b at ds (escapes.braced v (digit d)) both.1

in_braces : (p : Open → Bool) (b : Bool) → p named.brace ≡ b → ((v : ℕ) → p (named.braced v) ≡ b) → (ds : List ℕ) → list_all is_hex ds ≡ true → p (fold step named.brace ds) ≡ b
in_braces p b e at [] a = e
in_braces p b e at (d ∷ ds) a =
    let both = and_parts (is_hex d) (list_all is_hex ds) a in
    ap (λ (t : Bool). p (fold step (cond t (named.braced (digit d)) named.bad) ds)) both.0 ∙ over_digits p b at ds (digit d) both.1

-- what is open behind it
state : (p : Open → Bool) (b : Bool) → Tests p → p named.hex ≡ b → ((v : ℕ) → p (named.hex_digit v) ≡ b) → p named.brace ≡ b → ((v : ℕ) → p (named.braced v) ≡ b) → p named.control ≡ b
    → {es : List ℕ} → Unfinished es → (es ≡ 92 ∷ []) ⊎ (p (fold step named.nothing es) ≡ b)
state p b o h d r s c slash = inl refl
state p b o h d r s c hex = inr h
state p b o h d r s c (hex_digit {c = e} {x = x} n) = inr ((first_hex e [] (hex_of e x n)).tests p o ∙ d (digit e))
state p b o h d r s c brace = inr r
state p b o h d r s c (braced {ds = ds} n) = inr (in_braces p b r s ds (numeral_value n).0)
state p b o h d r s c control = inr c

pub left_good : (es : List ℕ) → Left es → is_bad (fold step named.nothing es) ≡ false
left_good es (inl e) = ap (λ es. is_bad (fold step named.nothing es)) e
left_good es (inr u) = elim (state is_bad false (λ v. refl, λ v. refl) refl (λ v. refl) refl (λ v. refl) refl u) [ inl e ↦ ap (λ es. is_bad (fold step named.nothing es)) e | inr e ↦ e ]

-- any character may come behind nothing or a backslash alone
abbrev pub Slash : List ℕ → Type 0
Slash es = (es ≡ []) ⊎ (es ≡ 92 ∷ [])

pub slash_left : (es : List ℕ) → Slash es → Left es
slash_left es (inl e) = inl e
slash_left es (inr e) = inr (subst Unfinished (sym e) slash)

pub slash_goes : (es : List ℕ) → Slash es → may_go_on (fold step named.nothing es) ≡ true
slash_goes es (inl e) = ap (λ es. may_go_on (fold step named.nothing es)) e
slash_goes es (inr e) = ap (λ es. may_go_on (fold step named.nothing es)) e

-- no quote closes what is quoted and what is left
left_open : (q : ℕ) → IsQuote q → (es : List ℕ) → Left es → free q (then_letter es) ≡ true
left_open q h es (inl e) = subst (λ es. free q (then_letter es) ≡ true) (sym e) (letter q h)
left_open q h es (inr u) = by u
  where
    by : {es : List ℕ} → Unfinished es → free q (then_letter es) ≡ true
    by slash = refl
    by (hex_digit {c = c} {x = x} d) = hex_from q (c ∷ []) (97 ∷ []) h (numeral_value (one_digit {base = 16} {c = c} {x = x} d)).0 (letter q h)
    by brace = free_plain q 123 (97 ∷ []) refl (brace_plain q h).0 (letter q h)
    by (braced {ds = ds} n) = free_plain q 123 (ds ++ 97 ∷ []) refl (brace_plain q h).0 (hex_from q ds (97 ∷ []) h (all_hex 16 ds (omega arith) (numeral_value n).0) (letter q h))
    by s = letter q h

pub quoted_open : {q : ℕ} {cs vs : List ℕ} → Quoted q cs vs → IsQuote q → (es : List ℕ) → Left es → free q (then_letter (cs ++ es)) ≡ true
quoted_open {q = q} {cs = cs} k h es l = subst (λ us. free q us ≡ true) (sym (append_assoc cs es (97 ∷ []))) (quoted_before k h (then_letter es) (left_open q h es l))
