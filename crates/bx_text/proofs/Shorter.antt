-- Reading goes on: blanks take no byte back, and each token takes one at least.
use Rattle.std.proofs.Common.{◌≡◌, ℕ, suc, ◌+◌, ◌≤◌, ◌<◌, Bool, true, false, cond, eqb, leb, List, [], ◌∷◌, take, drop, length, Result, Ok, Err, refl, sym, ap, ◌∙◌, subst, arith, length-drop}
use Rattle.std.specs.List.{prefix_len}
use Rattle.std.specs.Str.Lossy.{utf8_valid_len}
use Rattle.std.proofs.lemmas.Bool.{cond_both}
use Rattle.std.proofs.lemmas.Bool.Decides.{nat_tests}
use Rattle.bx_terms.specs.Outcomes.{◌>>=◌}
use Rattle.bx_terms.specs.declared.faults.Fault.{Fault}
use Rattle.bx_text.specs.declared.tokens.Mark.TheVariants.{Arrow, CloseBinary}
use Rattle.bx_text.specs.declared.kinds.Kind.{Kind}
use Rattle.bx_text.specs.declared.kinds.Kind.TheVariants as kind
use Rattle.bx_text.specs.Bytes.{begins, is_space, is_digit, is_lower, is_name, is_accented, is_accented_lower, is_plain}
use Rattle.bx_text.specs.Place.{Place}
use Rattle.bx_text.specs.Blank.{skip, skip_from, skip_line, line_of}
use Rattle.bx_text.specs.Token.{Body, Token, atom, text, open_map, open_binary, mark, Lexeme}
use Rattle.bx_text.specs.Lexing.{punctuation_of, name_len, foreign_at, number_at, pair_on, closing_at, ended_at, body_len, fraction_len, exponent_len, quoted_at, token_by, token_on, token_at, lexeme_from, lexeme_at, ends}
use Rattle.bx_text.specs.Escapes.{open_in, is_whole}
use Rattle.bx_text.proofs.Outcomes.{ok_same, bind_ok}

-- what is read, if anything is, leaves at most n bytes
abbrev Within : ℕ → Result Place Fault → Type 0
Within n (Ok q) = length q.rest ≤ n
Within n (Err e) = Unit {0}

one_more : (n : ℕ) (r : Result Place Fault) → Within n r → Within (suc n) r
one_more n r h = grind arith

-- blanks
mutual
  skip_within : (bs : List ℕ) (at line : ℕ) → Within (length bs) (skip_from bs at line)
  skip_within [] at line = omega arith
  skip_within (b ∷ bs) at line =
      cond_both (eqb b 37) _ _ (Within (suc (length bs)))
      (λ _. cond_both (eqb (utf8_valid_len (line_of bs)) (length (line_of bs))) _ _ (Within (suc (length bs))) (λ _. one_more (length bs) (skip_line bs (at + 1) line) (line_within bs (at + 1) line)) (λ _. tt))
      (λ _. cond_both (eqb b 10) _ _ (Within (suc (length bs))) (λ _. one_more (length bs) (skip_from bs (at + 1) (line + 1)) (skip_within bs (at + 1) (line + 1)))
      (λ _. cond_both (is_space b) _ _ (Within (suc (length bs))) (λ _. one_more (length bs) (skip_from bs (at + 1) line) (skip_within bs (at + 1) line)) (λ _. omega arith)))

  line_within : (bs : List ℕ) (at line : ℕ) → Within (length bs) (skip_line bs at line)
  line_within [] at line = omega arith
  line_within (b ∷ bs) at line =
      cond_both (eqb b 10) _ _ (Within (suc (length bs))) (λ _. one_more (length bs) (skip_from bs (at + 1) (line + 1)) (skip_within bs (at + 1) (line + 1)))
      (λ _. one_more (length bs) (skip_line bs (at + 1) line) (line_within bs (at + 1) line))

pub skip_le : (p q : Place) → skip p ≡ Ok q → length q.rest ≤ length p.rest
skip_le p q h = subst (Within (length p.rest)) h (skip_within p.rest p.at p.line)

-- what is read, if anything is, leaves fewer than n bytes
abbrev Shorter : {A : Type 0} → ℕ → Result (A × Place) Fault → Type 0
Shorter n (Ok x) = length x.1.rest < n
Shorter n (Err e) = Unit {0}

moved : (p : Place) (n : ℕ) → 0 < n → 0 < length p.rest → length (drop n p.rest) < length p.rest
moved p n some left = omega (arith, length-drop n p.rest)

-- words
lower_name : (b : ℕ) → is_lower b ≡ true → is_name b ≡ true
lower_name b e = grind (arith, nat_tests)

accented_name : (b : ℕ) → is_accented_lower b ≡ true → is_accented b ≡ true
accented_name b e = grind (arith, nat_tests)

letter_len : (b : ℕ) (bs : List ℕ) → is_lower b ≡ true → 0 < name_len (b ∷ bs)
letter_len b bs e = rw (lower_name b e) (omega arith)

accent_letters : (b : ℕ) (bs : List ℕ) → eqb b 195 ≡ true → begins is_accented_lower bs ≡ true → 0 < name_len (b ∷ bs)
accent_letters b [] e f = cc
accent_letters b (c ∷ cs) e f = cond_both (is_name b) _ _ (λ n. 0 < n) (λ _. omega arith) (λ _. rw (e, accented_name c f) (omega arith))

foreign_shorter : (p : Place) (n : ℕ) → Shorter n (foreign_at p)
foreign_shorter p n = cond_both (eqb (utf8_valid_len p.rest) 0) _ _ (Shorter {A = Token} n) (λ _. tt) (λ _. tt)

-- numbers
number_shorter : (p : Place) (sign : ℕ) → 0 < length p.rest → Shorter (length p.rest) (number_at p sign)
number_shorter p sign l =
    let n = prefix_len is_digit (drop sign p.rest) in
    let f = fraction_len (drop (sign + n) p.rest) in
    let P : Result (Token × Place) Fault → Type 0 = Shorter (length p.rest) in
    cond_both (eqb n 0) _ _ P (λ _. cond_both (eqb (length p.rest) sign) _ _ P (λ _. tt) (λ _. tt))
    (λ e. let some : 0 < n = some_of n e in cond_both (eqb f 0) _ _ P (λ _. moved p (sign + n) (omega arith) l) (λ _. moved p (sign + n + f + exponent_len (drop (sign + n + f) p.rest)) (omega arith) l))
  where
    some_of : (n : ℕ) → eqb n 0 ≡ false → 0 < n
    some_of n e = grind (arith, nat_tests)

-- marks of two bytes
pair_shorter : (c : ℕ) (k : Token) (bs : List ℕ) (p : Place) → 0 < length p.rest → Shorter (length p.rest) (pair_on c k bs p)
pair_shorter c k [] p l = tt
pair_shorter c k (b ∷ bs) p l = cond_both (eqb b c) _ _ (Shorter {A = Token} (length p.rest)) (λ _. moved p 2 (omega arith) l) (λ _. tt)

-- quotes
ended_shorter : (p : Place) (body : List ℕ) (n : ℕ) (cs : List ℕ) → 0 < length p.rest → Shorter (length p.rest) (ended_at p body n cs)
ended_shorter p body n [] l = tt
ended_shorter p body n (c ∷ cs) l = cond_both (is_whole (open_in (take n body))) _ _ (Shorter {A = Body} (length p.rest)) (λ _. moved p (n + 2) (omega arith) l) (λ _. tt)

closing_shorter : (quote : ℕ) (p : Place) (body : List ℕ) (n : ℕ) (cs : List ℕ) → 0 < length p.rest → Shorter (length p.rest) (closing_at quote p body n cs)
closing_shorter quote p body n [] l = tt
closing_shorter quote p body n (c ∷ cs) l =
    let m = body_len quote body in
    let P : Result (Body × Place) Fault → Type 0 = Shorter (length p.rest) in
    cond_both (eqb c 92) _ _ P (λ _. cond_both (eqb (utf8_valid_len (take m body)) m) _ _ P (λ _. ended_shorter p body m (drop m body) l) (λ _. tt)) (λ _. moved p (n + 2) (omega arith) l)

quoted_shorter : (quote : ℕ) (p : Place) → 0 < length p.rest → Shorter (length p.rest) (quoted_at quote p)
quoted_shorter quote p l =
    let body = drop 1 p.rest in
    let n = prefix_len (is_plain quote) body in
    cond_both (eqb (utf8_valid_len (take n body)) n) _ _ (Shorter {A = Body} (length p.rest)) (λ _. closing_shorter quote p body n (drop n body) l) (λ _. tt)

wrapped : (f : Body → Token) (n : ℕ) (r : Result (Body × Place) Fault) → Shorter n r → Shorter n (r >>= λ y. Ok (f y.0, y.1))
wrapped f n r h = grind arith

-- what a byte of a kind begins
abbrev is_letter : Kind → Bool
is_letter kind.Letter = true
is_letter kind.Accent = true
is_letter k = false

neither : (t : Bool) (x y : Kind) → is_letter x ≡ false → is_letter y ≡ false → is_letter (cond t x y) ≡ false
neither t x y a b = cond_both t x y (λ k. is_letter k ≡ false) (λ _. a) (λ _. b)

punctuation : (b : ℕ) → is_letter (punctuation_of b) ≡ false
punctuation b = search (neither) depth 30 fits 3000

by_kind : (k : Kind) (p : Place) → is_letter k ≡ false → 0 < length p.rest → Shorter (length p.rest) (token_by k p)
by_kind kind.Digit p i l = number_shorter p 0 l
by_kind kind.Minus p i l = number_shorter p 1 l
by_kind kind.Quote p i l = wrapped atom (length p.rest) (quoted_at 39 p) (quoted_shorter 39 p l)
by_kind kind.DoubleQuote p i l = wrapped text (length p.rest) (quoted_at 34 p) (quoted_shorter 34 p l)
by_kind kind.Dot p i l = cond_both (ends (drop 1 p.rest)) _ _ (Shorter {A = Token} (length p.rest)) (λ _. moved p 1 (omega arith) l) (λ _. tt)
by_kind kind.Hash p i l = pair_shorter 123 open_map (drop 1 p.rest) p l
by_kind kind.Less p i l = pair_shorter 60 open_binary (drop 1 p.rest) p l
by_kind kind.Equals p i l = pair_shorter 62 (mark Arrow) (drop 1 p.rest) p l
by_kind kind.Greater p i l = pair_shorter 62 (mark CloseBinary) (drop 1 p.rest) p l
by_kind kind.Foreign p i l = foreign_shorter p (length p.rest)
by_kind kind.Nothing p i l = tt
by_kind kind.Letter p i l = cc
by_kind kind.Accent p i l = cc
by_kind k p i l = moved p 1 (omega arith) l

on_shorter : (bs : List ℕ) (p : Place) → p.rest ≡ bs → Shorter (length p.rest) (token_on bs p)
on_shorter [] p r = tt
on_shorter (b ∷ bs) p r =
    let l : 0 < length p.rest = omega (arith, ap length r) in
    let P : Kind → Type 0 = λ k. Shorter (length p.rest) (token_by k p) in
    cond_both (is_lower b) _ _ P (λ e. moved p (name_len p.rest) (subst (λ l. 0 < name_len l) (sym r) (letter_len b bs e)) l)
    (λ _. cond_both (is_digit b) _ _ P (λ _. number_shorter p 0 l)
    (λ _. cond_both (eqb b 195) _ _ P (λ e. cond_both (begins is_accented_lower (drop 1 p.rest)) _ _ (Shorter {A = Token} (length p.rest))
    (λ f. moved p (name_len p.rest) (subst (λ l. 0 < name_len l) (sym r) (accent_letters b bs e (ap (λ l. begins is_accented_lower (drop 1 l)) (sym r) ∙ f))) l) (λ _. foreign_shorter p (length p.rest)))
    (λ _. cond_both (leb 128 b) _ _ P (λ _. foreign_shorter p (length p.rest)) (λ _. by_kind (punctuation_of b) p (punctuation b) l))))

from_shorter : (p : Place) (l : Lexeme) → lexeme_from p ≡ Ok l → length l.after.rest < length p.rest
from_shorter p l h =
    let b = bind_ok (token_at p) (λ x. Ok (record { token = x.0; from = p.at; line = p.line; begin = p.rest; after = x.1 })) l h in
    let s : length b.0.1.rest ≡ length l.after.rest = ap (λ (m : Lexeme). length m.after.rest) (ok_same (record { token = b.0.0; from = p.at; line = p.line; begin = p.rest; after = b.0.1 }) l b.2) in
    let less : length b.0.1.rest < length p.rest = subst (Shorter (length p.rest)) b.1 (on_shorter p.rest p refl) in
    omega arith

-- each token takes a byte at least
pub next_shorter : (p : Place) (l : Lexeme) → lexeme_at p ≡ Ok l → length l.after.rest < length p.rest
next_shorter p l h =
    let b = bind_ok (skip p) lexeme_from l h in
    omega (arith, skip_le p b.0 b.1, from_shorter b.0 l b.2)
