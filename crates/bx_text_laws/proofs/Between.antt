-- What stands between two places of a text is in UTF-8, where blanks and tokens stand there.
use Rattle.bx_text_laws.proofs.Commons.{◌≡◌, ℕ, ◌+◌, ◌≤◌, ◌<◌, List, [], ◌∷◌, ◌++◌, length, Ok, refl, sym, ap, ◌∙◌, subst, arith, append_assoc, length-append, ◌⊎◌, IsUtf8, if◌then◌else◌, Bool, Err}
use Rattle.bx_text_laws.proofs.Commons.{AllByRecursion, eq-eqb, IsUtf8-nil, IsUtf8-append, utf8_valid_len-IsUtf8, NotUtf8, Sort, Place, Token, Lexeme, lexeme_at, other, span, kept_at, Blank, nothing}
use Rattle.bx_text_laws.proofs.Commons.{comment, Digit, Numeral, one_digit, digit_more, InUtf8, Minus, no_minus, a_minus, Sign, no_sign, plus, minus, Exponent, no_exponent, an_exponent, Spelling}
use Rattle.bx_text.specs.Terms.{taken}
use Rattle.bx_text.proofs.Shorter.{next_shorter}
use Rattle.bx_text_laws.specs.Blanks.{space}
use Rattle.bx_text_laws.specs.Spelling as spelling
use Rattle.bx_text_laws.proofs.Moving.{Stepped, stepped, taken_is}
use Rattle.bx_text_laws.proofs.Printing.{ascii_utf8}
use Rattle.bx_text_laws.proofs.Sentences.{step, plainly}

in_utf8 : (cs : List ℕ) {bytes : List ℕ} → InUtf8 cs bytes → IsUtf8 bytes
in_utf8 cs u = (cs, (u.0, u.1))

low : (bs : List ℕ) → AllByRecursion (λ b. b < 128) bs → IsUtf8 bs
low bs a = in_utf8 bs (ascii_utf8 bs a)

one : (b : ℕ) → b < 128 → IsUtf8 (b ∷ [])
one b l = low (b ∷ []) (l, tt)

before : (b : ℕ) (bs : List ℕ) → b < 128 → IsUtf8 bs → IsUtf8 (b ∷ bs)
before b bs l u = IsUtf8-append (b ∷ []) bs (one b l) u

blank_utf8 : {bytes rest : List ℕ} → Blank bytes rest → IsUtf8 bytes
blank_utf8 nothing = IsUtf8-nil
blank_utf8 (space {b = b} {bytes = bytes} s k) = before b bytes (omega arith) (blank_utf8 k)
blank_utf8 (comment text {bytes = bytes} (a, u) e k) = before 37 (text ++ bytes) (omega arith) (IsUtf8-append text bytes u (blank_utf8 k))

digit_low : (b c x : ℕ) → Digit b c x → c < 128
digit_low b c x d = grind arith

numeral_utf8 : {b n : ℕ} {ds : List ℕ} → Numeral b ds n → IsUtf8 ds
numeral_utf8 (one_digit {base = b} {c = c} {x = x} d) = one c (digit_low b c x d)
numeral_utf8 (digit_more {base = b} {c = c} {x = x} {cs = cs} k d) = IsUtf8-append cs (c ∷ []) (numeral_utf8 k) (one c (digit_low b c x d))

minus_utf8 : {m : List ℕ} → Minus m → IsUtf8 m
minus_utf8 no_minus = IsUtf8-nil
minus_utf8 a_minus = one 45 (omega arith)

sign_utf8 : {s : List ℕ} → Sign s → IsUtf8 s
sign_utf8 no_sign = IsUtf8-nil
sign_utf8 plus = one 43 (omega arith)
sign_utf8 minus = one 45 (omega arith)

letter_low : (e : ℕ) → (e ≡ 101) ⊎ (e ≡ 69) → e < 128
letter_low e h = grind arith

exponent_utf8 : {es : List ℕ} → Exponent es → IsUtf8 es
exponent_utf8 no_exponent = IsUtf8-nil
exponent_utf8 (an_exponent {e = e} {s = s} {ds = ds} h k (n, d)) = before e (s ++ ds) (letter_low e h) (IsUtf8-append s ds (sign_utf8 k) (numeral_utf8 d))

quoted_utf8 : (q : ℕ) (cs : List ℕ) {bytes : List ℕ} → q < 128 → InUtf8 cs bytes → IsUtf8 (q ∷ (bytes ++ q ∷ []))
quoted_utf8 q cs {bytes} l u = before q (bytes ++ q ∷ []) l (IsUtf8-append bytes (q ∷ []) (in_utf8 cs u) (one q l))

spelled_utf8 : {bytes : List ℕ} {t : Token} → Spelling bytes t → IsUtf8 bytes
spelled_utf8 (spelling.integer k) = numeral_utf8 k
spelled_utf8 (spelling.negative {ds = ds} k) = before 45 ds (omega arith) (numeral_utf8 k)
spelled_utf8 (spelling.float {m = m} {ds = ds} {fs = fs} {es = es} h (i, d) (j, f) e) =
    IsUtf8-append m (ds ++ (46 ∷ (fs ++ es))) (minus_utf8 h)
    (IsUtf8-append ds (46 ∷ (fs ++ es)) (numeral_utf8 d) (before 46 (fs ++ es) (omega arith) (IsUtf8-append fs es (numeral_utf8 f) (exponent_utf8 e))))
spelled_utf8 (spelling.bare_atom c cs h a u o) = in_utf8 (c ∷ cs) u
spelled_utf8 (spelling.quoted_atom {cs = cs} r u) = quoted_utf8 39 cs (omega arith) u
spelled_utf8 (spelling.string {cs = cs} r u) = quoted_utf8 34 cs (omega arith) u
spelled_utf8 {bytes} s = low bytes (omega arith)

-- the text from p to q is in UTF-8
pub record Clean (p q : Place) : Type 0 where
  pub text : List ℕ
  pub rest : p.rest ≡ text ++ q.rest
  pub size : q.at ≡ p.at + length text
  pub valid : IsUtf8 text

pub clean_here : (p : Place) → Clean p p
clean_here p = record { text = []; rest = refl; size = omega arith; valid = IsUtf8-nil }

pub clean_on : {p q r : Place} → Clean p q → Clean q r → Clean p r
clean_on {p} {q} {r} a b = record {
  text = a.text ++ b.text;
  rest = a.rest ∙ ap (λ ws. a.text ++ ws) b.rest ∙ sym (append_assoc a.text b.text r.rest);
  size = omega (arith, a.size, b.size, length-append a.text b.text);
  valid = IsUtf8-append a.text b.text a.valid b.valid;
}

pub clean_le : {p q : Place} → Clean p q → length q.rest ≤ length p.rest
clean_le {p} {q} a = omega (arith, ap length a.rest, length-append a.text q.rest)

-- blanks and a token
read : (p : Place) (l : Lexeme) → lexeme_at p ≡ Ok l → Stepped p (plainly l)
read p l n = stepped p (plainly l) (step p l n)

pub clean_token : (p : Place) (l : Lexeme) → lexeme_at p ≡ Ok l → Clean p l.after
clean_token p l n = let s = read p l n in record {
  text = s.blank ++ s.bytes;
  rest = s.rest ∙ sym (append_assoc s.blank s.bytes l.after.rest);
  size = omega (arith, s.size, s.from, length-append s.blank s.bytes);
  valid = IsUtf8-append s.blank s.bytes (blank_utf8 s.blanks) (spelled_utf8 s.spells);
}

pub token_less : (p : Place) (l : Lexeme) → lexeme_at p ≡ Ok l → length l.after.rest < length p.rest
token_less = next_shorter

-- what is kept as it is written is always in UTF-8
pub kept_is : (p q : Place) (l : Lexeme) → lexeme_at p ≡ Ok l → Clean l.after q → (k : Sort) → kept_at k l q ≡ Ok (other (span l q) k (taken l q), q)
kept_is p q l n c k = ap (λ (b : Bool). if b then Ok (other (span l q) k (taken l q), q) else Err (NotUtf8 l.line)) (eq-eqb _ _ (utf8_valid_len-IsUtf8 (taken l q) valid))
  where
    s : Stepped p (plainly l)
    s = read p l n

    text : taken l q ≡ s.bytes ++ c.text
    text = taken_is l q s.bytes c.text q.rest (s.begin ∙ ap (λ ws. s.bytes ++ ws) c.rest) (omega (arith, c.size, s.size))

    valid : IsUtf8 (taken l q)
    valid = subst IsUtf8 (sym text) (IsUtf8-append s.bytes c.text (spelled_utf8 s.spells) c.valid)
