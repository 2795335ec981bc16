-- What the reader's tests of a token say of what the token does.
use Rattle.std.proofs.Common.{arith, ◌≡◌, ℕ, Bool, true, false, [], ◌∷◌, codes, Ok, refl, ap, inl, inr}
use Rattle.std.proofs.lemmas.Bool.{both_ways, cond_both}
use Rattle.std.proofs.lemmas.Slice.Eq.{bytes_eq-Decides}
use Rattle.bx_text.specs.Place.{Place}
use Rattle.bx_text.specs.Named as named
use Rattle.bx_text.specs.Token as token
use Rattle.bx_text.specs.Token.{Token, Lexeme, spelled}
use Rattle.bx_text.specs.Lexing.{lexeme_at}
use Rattle.bx_text.specs.Terms.{closed, want, closes_tuple, closes_list, closes_binary, is_comma, is_bar, is_stop, is_arrow, is_colon, is_slash, is_atom, is_integer, is_utf8_name}
use Rattle.bx_text_laws.specs.Tokens.{meant}
use Rattle.bx_text_laws.specs.Faults as faults
use Rattle.bx_text_laws.specs.Faults.{Bracket, a_list, a_binary, Wanted, a_term, first_in, more_in, a_value, a_size, an_encoding, a_name, a_number, the, parts, Move, misplaced, taken, instead, Meets, Does}
use Rattle.bx_text_laws.proofs.Goings.{Going, Nothing, Here, taking, misplaces, then, next_at, from_token, done_place}

-- a test of what is wanted
pub record Tells (w : Wanted) (test : Token → Bool) (May : Token → Type 0) : Type 0 where
  pub yes : (t : Token) → test t ≡ true → Does w (meant t) (taken [])
  pub other : (t : Token) → May t → test t ≡ false → Does w (meant t) misplaced

abbrev pub Any : Token → Type 0
Any t = Unit {0}

pub closed_goes : {May : Token → Type 0} (w : Wanted) (test : Token → Bool) → Tells w test May → (p : Place) (l : Lexeme) → lexeme_at p ≡ Ok l → May l.token → Going Nothing Here (w ∷ []) p l.after (closed test l)
closed_goes w test tells p l n may =
    cond_both (test l.token) _ _ (Going Nothing Here (w ∷ []) p l.after) (λ e. taking w [] [] p l n (tells.yes l.token e) (done_place l.after)) (λ e. misplaces w [] p l n (tells.other l.token may e))

pub want_goes : (w : Wanted) (test : Token → Bool) → Tells w test Any → (p : Place) → Going Nothing Here (w ∷ []) p p (want test p)
want_goes w test tells p = then (w ∷ []) (closed test) (next_at p) (λ l q n c. from_token q l n (closed_goes w test tells q l n tt))

-- this very token
pub arrow_tells : Tells (the named.arrow) is_arrow Any
arrow_tells = record { yes = λ t e. inl (faults.it (grind arith)); other = λ t u e. inr (λ m k. grind arith, refl) }

pub colon_tells : Tells (the named.colon) is_colon Any
colon_tells = record { yes = λ t e. inl (faults.it (grind arith)); other = λ t u e. inr (λ m k. grind arith, refl) }

pub slash_tells : Tells (the named.slash) is_slash Any
slash_tells = record { yes = λ t e. inl (faults.it (grind arith)); other = λ t u e. inr (λ m k. grind arith, refl) }

pub stop_tells : Tells (the named.full_stop) is_stop Any
stop_tells = record { yes = λ t e. inl (faults.it (grind arith)); other = λ t u e. inr (λ m k. grind arith, refl) }

pub list_close_tells : Tells (the named.close_list) closes_list Any
list_close_tells = record { yes = λ t e. inl (faults.it (grind arith)); other = λ t u e. inr (λ m k. grind arith, refl) }

is_the : {v t : Token} {m : Move} → Meets (the v) t m → t ≡ v
is_the (faults.it e) = e

utf8_named : (t : Token) → is_utf8_name t ≡ true → meant t ≡ token.atom (token.plain (codes "utf8"))
utf8_named (token.atom b) e = ap (λ w. token.atom (token.plain w)) ((bytes_eq-Decides (spelled b) (codes "utf8")).0 e)
utf8_named t e = cc

utf8_back : (t : Token) → meant t ≡ token.atom (token.plain (codes "utf8")) → is_utf8_name t ≡ true
utf8_back (token.atom b) e = let text : spelled b ≡ codes "utf8" = cc in (bytes_eq-Decides (spelled b) (codes "utf8")).1 text
utf8_back t e = cc

pub utf8_tells : Tells (the (token.atom (token.plain (codes "utf8")))) is_utf8_name Any
utf8_tells = record {
  yes = λ t e. inl (faults.it (utf8_named t e));
  other = λ t u e. inr (λ m k. both_ways (is_utf8_name t) e (utf8_back t (is_the k)), refl);
}

-- a name and a number
pub name_tells : Tells a_name is_atom Any
name_tells = record { yes = λ t e. grind (arith, faults.its_name); other = λ t u e. inr (λ m k. grind arith, refl) }

pub number_tells : Tells a_number is_integer Any
number_tells = record { yes = λ t e. grind (arith, faults.its_number); other = λ t u e. inr (λ m k. grind arith, refl) }

-- what closes a bracket, behind the opening mark and behind a part
abbrev pub closes : Bracket → Token → Bool
closes a_list = closes_list
closes a_binary = closes_binary
closes s = closes_tuple

pub at_once : (k : Bracket) (d : ℕ) (t : Token) → closes k t ≡ true → Does (first_in k d) (meant t) (taken [])
at_once k d t e = inl (faults.at_once (grind arith))

pub first_part : (k : Bracket) (d : ℕ) (t : Token) → closes k t ≡ false → Does (first_in k d) (meant t) (instead (parts k d))
first_part k d t e = inr (λ m u. grind arith, refl)

-- neither a comma nor, in a list, a bar
abbrev pub NotMore : Bracket → Token → Type 0
NotMore k t = (is_comma t ≡ false) × (k ≡ a_list → is_bar t ≡ false)

pub close_tells : (k : Bracket) (d : ℕ) → Tells (more_in k d) (closes k) (NotMore k)
close_tells k d = record { yes = λ t e. inl (faults.at_last (grind arith)); other = λ t may e. inr (λ m u. grind arith, refl) }

pub comma_does : (k : Bracket) (d : ℕ) (t : Token) → is_comma t ≡ true → Does (more_in k d) (meant t) (taken (parts k d))
comma_does k d t e = inl (grind (arith, faults.a_comma {k = k} {d = d}))

pub bar_does : (d : ℕ) (t : Token) → is_bar t ≡ true → Does (more_in a_list d) (meant t) (taken (a_term d ∷ the named.close_list ∷ []))
bar_does d t e = inl (grind (arith, faults.a_bar {d = d}))

-- a size and an encoding, or none
pub colon_does : (t : Token) → is_colon t ≡ true → Does a_size (meant t) (taken (a_number ∷ []))
colon_does t e = inl (grind (arith, faults.a_colon))

pub no_colon_does : (t : Token) → is_colon t ≡ false → Does a_size (meant t) (instead [])
no_colon_does t e = inr (λ m u. grind arith, refl)

pub slash_does : (t : Token) → is_slash t ≡ true → Does an_encoding (meant t) (taken (the (token.atom (token.plain (codes "utf8"))) ∷ []))
slash_does t e = inl (grind (arith, faults.a_slash))

pub no_slash_does : (t : Token) → is_slash t ≡ false → Does an_encoding (meant t) (instead [])
no_slash_does t e = inr (λ m u. grind arith, refl)

-- a term begins with no mark but `fun`
abbrev pub IsMark : Token → Type 0
IsMark (token.mark m) = Unit {0}
IsMark t = ⊥

pub mark_does : (d : ℕ) (t : Token) → IsMark t → (t ≡ named.the_word_fun → ⊥) → Does (a_term d) (meant t) misplaced
mark_does d t i n = inr (λ m u. grind arith, refl)

-- a segment holds an integer or strings
abbrev pub IsHeld : Token → Type 0
IsHeld (token.integer n) = Unit {0}
IsHeld (token.text b) = Unit {0}
IsHeld t = ⊥

pub not_held : (d : ℕ) (t : Token) → (IsHeld (meant t) → ⊥) → Does (a_value d) (meant t) misplaced
not_held d t n = inr (λ m u. grind arith, refl)
