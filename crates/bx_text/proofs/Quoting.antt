-- A string is what begins with a double quote.
use Rattle.std.proofs.Common.{arith, ◌≡◌, ℕ, ◌+◌, Bool, true, false, cond, eqb, List, [], ◌∷◌, length, drop, Option, Some, None, Result, Ok, Err, refl, sym, ap, ◌∙◌, subst, if◌then◌else◌, codes}
use Rattle.std.specs.List.{prefix_len}
use Rattle.std.specs.Str.{bytes_eq}
use Rattle.std.specs.Str.Lossy.{utf8_valid_len}
use Rattle.std.proofs.lemmas.Bool.{eqb-true, both_ways, true_from_ne_false, cond-false, cond_both}
use Rattle.bx_terms.specs.Outcomes.{◌>>=◌}
use Rattle.bx_terms.specs.declared.faults.Fault.{Fault}
use Rattle.bx_text.specs.declared.tokens.Mark.TheVariants.{Arrow, CloseBinary}
use Rattle.bx_text.specs.declared.kinds.Kind.{Kind}
use Rattle.bx_text.specs.declared.kinds.Kind.TheVariants as kind
use Rattle.bx_text.specs.Bytes.{begins, is_digit, is_accented_lower}
use Rattle.bx_text.specs.Place.{Place}
use Rattle.bx_text.specs.Blank.{skip}
use Rattle.bx_text.specs.Token as token
use Rattle.bx_text.specs.Token.{Body, Token, Lexeme}
use Rattle.bx_text.specs.Lexing.{kind_of, bare_at, word_at, foreign_at, digits_at, pair_on, fraction_len, quoted_at, token_by, token_on, lexeme_from, lexeme_at, ends}
use Rattle.bx_text.specs.Terms.{is_quote, text_next}
use Rattle.bx_text.specs.Grammar.{NoString}
use Rattle.bx_text.proofs.Outcomes.{bind_ok, Yields, yes, no, reads, bound, read}

abbrev is_double : Kind → Bool
is_double kind.DoubleQuote = true
is_double k = false

abbrev is_text : Token → Bool
is_text (token.text w) = true
is_text t = false

neither : (t : Bool) (x y : Kind) → is_double x ≡ false → is_double y ≡ false → is_double (cond t x y) ≡ false
neither t x y a b = cond_both t x y (λ k. is_double k ≡ false) (λ _. a) (λ _. b)

here : (t : Bool) (x y : Kind) → t ≡ false → is_double y ≡ false → is_double (cond t x y) ≡ false
here t x y e b = ap is_double (cond-false t x y e) ∙ b

no_double : (b : ℕ) → is_quote b ≡ false → is_double (kind_of b) ≡ false
no_double b e = search (neither, here) depth 30 fits 3000

-- what is read, if anything is, is no string
abbrev NoText : Result (Token × Place) Fault → Type 0
NoText (Ok x) = is_text x.0 ≡ false
NoText (Err e) = Unit {0}

word_other : (p : Place) → NoText (word_at p)
word_other p = cond_both (bytes_eq (bare_at p).0 (codes "fun")) _ _ (λ t. is_text t ≡ false) (λ _. refl) (λ _. refl)

foreign_other : (p : Place) → NoText (foreign_at p)
foreign_other p = cond_both (eqb (utf8_valid_len p.rest) 0) _ _ NoText (λ _. tt) (λ _. tt)

digits_other : (p : Place) (sign n : ℕ) → NoText (digits_at p sign n)
digits_other p sign n =
    cond_both (eqb n 0) _ _ NoText (λ _. cond_both (eqb (length p.rest) sign) _ _ NoText (λ _. tt) (λ _. tt))
    (λ _. cond_both (eqb (fraction_len (drop (sign + n) p.rest)) 0) _ _ NoText (λ _. refl) (λ _. refl))

pair_other : (c : ℕ) (k : Token) (bs : List ℕ) (p : Place) → is_text k ≡ false → NoText (pair_on c k bs p)
pair_other c k [] p n = tt
pair_other c k (b ∷ bs) p n = cond_both (eqb b c) _ _ NoText (λ _. n) (λ _. tt)

atom_other : (r : Result (Body × Place) Fault) → NoText (r >>= λ y. Ok (token.atom y.0, y.1))
atom_other r = grind arith

kind_other : (k : Kind) (p : Place) → is_double k ≡ false → NoText (token_by k p)
kind_other kind.Letter p n = word_other p
kind_other kind.Accent p n = cond_both (begins is_accented_lower (drop 1 p.rest)) _ _ NoText (λ _. word_other p) (λ _. foreign_other p)
kind_other kind.Digit p n = digits_other p 0 (prefix_len is_digit (drop 0 p.rest))
kind_other kind.Minus p n = digits_other p 1 (prefix_len is_digit (drop 1 p.rest))
kind_other kind.Quote p n = atom_other (quoted_at 39 p)
kind_other kind.Dot p n = cond_both (ends (drop 1 p.rest)) _ _ NoText (λ _. refl) (λ _. tt)
kind_other kind.Hash p n = pair_other 123 token.open_map (drop 1 p.rest) p refl
kind_other kind.Less p n = pair_other 60 token.open_binary (drop 1 p.rest) p refl
kind_other kind.Equals p n = pair_other 62 (token.mark Arrow) (drop 1 p.rest) p refl
kind_other kind.Greater p n = pair_other 62 (token.mark CloseBinary) (drop 1 p.rest) p refl
kind_other kind.Foreign p n = foreign_other p
kind_other kind.Nothing p n = tt
kind_other kind.DoubleQuote p n = cc
kind_other k p n = refl

-- where a token is a string, it begins with a quote
quote_from : (q : Place) (cs : List ℕ) → Yields (λ (x : Token × Place). is_text x.0 ≡ true → begins is_quote cs ≡ true) (token_on cs q)
quote_from q [] = no
quote_from q (c ∷ cs) = record { each = λ x e h. true_from_ne_false (is_quote c) (λ n. both_ways (is_text x.0) (subst NoText e (kind_other (kind_of c) q (no_double c n))) h) }

quote_first : (q : Place) (l : Lexeme) (w : Body) → lexeme_from q ≡ Ok l → l.token ≡ token.text w → begins is_quote q.rest ≡ true
quote_first q l w e t = whole.each l e (ap is_text t)
  where
    whole : Yields (λ (l : Lexeme). is_text l.token ≡ true → begins is_quote q.rest ≡ true) (lexeme_from q)
    whole = bound _ (quote_from q q.rest) (λ x h. yes h)

pub text_some : (p : Place) (l : Lexeme) (w : Body) → lexeme_at p ≡ Ok l → l.token ≡ token.text w → text_next p ≡ Ok (Some l)
text_some p l w n t = let b = bind_ok (skip p) lexeme_from l n in rw (b.1, quote_first b.0 l w b.2 t, b.2) refl

-- and what begins with one is a string
from_quote : (q : Place) (cs : List ℕ) → begins is_quote cs ≡ true → Yields (λ (x : Token × Place). (w : Body) × (x.0 ≡ token.text w)) (token_on cs q)
from_quote q [] b = no
from_quote q (c ∷ cs) b = subst (λ c. Yields (λ (x : Token × Place). (w : Body) × (x.0 ≡ token.text w)) (token_by (kind_of c) q)) (sym (eqb-true c 34 b)) quoted
  where
    quoted : Yields (λ (x : Token × Place). (w : Body) × (x.0 ≡ token.text w)) (token_by (kind_of 34) q)
    quoted = bound _ (reads (quoted_at 34 q)) (λ y h. yes (y.0, refl))

-- what follows strings is a string or none
abbrev pub TextIs : Place → Option Lexeme → Type 0
TextIs p None = NoString p
TextIs p (Some l) = (lexeme_at p ≡ Ok l) × ((w : Body) × (l.token ≡ token.text w))

pub text_so : (p : Place) → Yields (TextIs p) (text_next p)
text_so p =
    read (skip p) (λ q. if begins is_quote q.rest then (lexeme_from q >>= λ l. Ok (Some l)) else Ok None)
    (λ q s. cond_both (begins is_quote q.rest) _ _ (Yields (TextIs p)) (λ b. read (lexeme_from q) (λ l. Ok (Some l)) (λ l f. yes (ap (λ r. r >>= lexeme_from) s ∙ f, (string q b).each l f))) (λ b. yes (q, s, b)))
  where
    string : (q : Place) → begins is_quote q.rest ≡ true → Yields (λ (l : Lexeme). (w : Body) × (l.token ≡ token.text w)) (lexeme_from q)
    string q b = bound _ (from_quote q q.rest b) (λ x h. yes h)
