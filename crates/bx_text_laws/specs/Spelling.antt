-- The tokens of term texts by the bytes that spell them.
-- Source: Erlang Reference Manual, "Data Types" and "Character Set and Source File Encoding".
use Rattle.std.specs.Prelude.{◌≡◌, ◌≢◌, ◌⊎◌, ℕ, pos, neg_ℤ, true, List, [], ◌∷◌, ◌++◌, codes, encode_utf8_all}
use Rattle.std.specs.List.{AllByRecursion}
use Rattle.std.specs.Str.{all_scalars}
use Rattle.bx_text.specs.Named as named
use Rattle.bx_text.specs.Token as token
use Rattle.bx_text.specs.Token.{Token}
use Rattle.bx_text_laws.specs.Characters.{IsSpace, IsSmall, IsNameCharacter}
use Rattle.bx_text_laws.specs.Numerals.{Numeral}
use Rattle.bx_text_laws.specs.Quoted.{Quoted}

-- characters in UTF-8
abbrev pub InUtf8 : List ℕ → List ℕ → Type 0
InUtf8 cs bytes = (all_scalars cs ≡ true) × (encode_utf8_all cs ≡ bytes)

-- what begins a number: nothing or a minus sign
pub data Minus : List ℕ → Type 0 where
  no_minus : Minus []
  a_minus : Minus (codes "-")

-- decimal digits, at least one
abbrev pub Digits : List ℕ → Type 0
Digits ds = (n : ℕ) × Numeral 10 ds n

-- the sign of an exponent: nothing, a plus or a minus sign
pub data Sign : List ℕ → Type 0 where
  no_sign : Sign []
  plus : Sign (codes "+")
  minus : Sign (codes "-")

-- nothing, or `e` or `E`, an optional sign and digits
pub data Exponent : List ℕ → Type 0 where
  no_exponent : Exponent []
  an_exponent : {e : ℕ} {s ds : List ℕ} → (e ≡ 101) ⊎ (e ≡ 69) → Sign s → Digits ds
      → Exponent (e ∷ (s ++ ds))

pub data Spelling : List ℕ → Token → Type 0 where
  open_tuple : Spelling (codes "{") token.open_tuple
  close_tuple : Spelling (codes "}") named.close_tuple
  open_list : Spelling (codes "[") token.open_list
  close_list : Spelling (codes "]") named.close_list
  open_map : Spelling (codes "#{") token.open_map
  open_binary : Spelling (codes "<<") token.open_binary
  close_binary : Spelling (codes ">>") named.close_binary
  comma : Spelling (codes ",") named.comma
  bar : Spelling (codes "|") named.bar
  arrow : Spelling (codes "=>") named.arrow
  colon : Spelling (codes ":") named.colon
  slash : Spelling (codes "/") named.slash
  -- parentheses stand in no term
  open_parenthesis : Spelling (codes "(") named.parenthesis
  close_parenthesis : Spelling (codes ")") named.parenthesis
  -- what has to follow it is said below
  full_stop : Spelling (codes ".") named.full_stop
  the_word_fun : Spelling (codes "fun") named.the_word_fun
  integer : {ds : List ℕ} {n : ℕ} → Numeral 10 ds n → Spelling ds (token.integer (pos n))
  negative : {ds : List ℕ} {n : ℕ} → Numeral 10 ds n
      → Spelling (codes "-" ++ ds) (token.integer (neg_ℤ (pos n)))
  float : {m ds fs es : List ℕ} → Minus m → Digits ds → Digits fs → Exponent es
      → Spelling (m ++ (ds ++ (46 ∷ (fs ++ es)))) token.float
  -- a reserved word but `fun` is an atom too
  bare_atom : (c : ℕ) (cs : List ℕ) {bytes : List ℕ} → IsSmall c → AllByRecursion IsNameCharacter cs
      → InUtf8 (c ∷ cs) bytes → bytes ≢ codes "fun"
      → Spelling bytes (token.atom (token.plain bytes))
  quoted_atom : {cs vs bytes : List ℕ} → Quoted 39 cs vs → InUtf8 cs bytes
      → Spelling (39 ∷ (bytes ++ 39 ∷ [])) (token.atom (token.plain (encode_utf8_all vs)))
  string : {cs vs bytes : List ℕ} → Quoted 34 cs vs → InUtf8 cs bytes
      → Spelling (34 ∷ (bytes ++ 34 ∷ [])) (token.text (token.plain (encode_utf8_all vs)))

-- a full stop is followed by a space, a comment or the end of the text
abbrev pub StopsAt : List ℕ → Type 0
StopsAt [] = Unit {0}
StopsAt (b ∷ bs) = IsSpace b ⊎ (b ≡ 37)

-- these bytes may follow a token
abbrev pub MayFollow : Token → List ℕ → Type 0
MayFollow t rest = t ≡ named.full_stop → StopsAt rest

-- a text begins with these bytes, which spell a token, and the rest follows
abbrev pub Begins : List ℕ → List ℕ → Token → List ℕ → Type 0
Begins text bytes t rest = (text ≡ bytes ++ rest) × Spelling bytes t × MayFollow t rest

-- no spelling of any token begins the text
abbrev pub NoToken : List ℕ → Type 0
NoToken text = (bytes : List ℕ) (t : Token) (rest : List ℕ) → Begins text bytes t rest → ⊥
