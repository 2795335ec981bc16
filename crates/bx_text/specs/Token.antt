-- The tokens of a term text.
use Rattle.std.specs.Prelude.{ℕ, ℤ, List}
use Rattle.bx_text.specs.declared.tokens.Mark.{Mark}
use Rattle.bx_text.specs.declared.tokens.Body.{Body as SeenBody}
use Rattle.bx_text.specs.declared.tokens.Body.TheVariants as body
use Rattle.bx_text.specs.declared.tokens.Token.{Token as Seen}
use Rattle.bx_text.specs.declared.tokens.Token.TheVariants as seen
use Rattle.bx_text.specs.declared.lexemes.Lexeme.{Lexeme as SeenLexeme}
use Rattle.bx_text.specs.Escapes.{decoded}
use Rattle.bx_text.specs.Number.{number}
use Rattle.bx_text.specs.Place.{Place, place}

-- a text as it stands, or one with escapes
pub data Body : Type 0 where
  plain : List ℕ → Body
  escaped : List ℕ → Body

-- the text that is meant, in UTF-8
abbrev pub spelled : Body → List ℕ
spelled (plain w) = w
spelled (escaped raw) = decoded raw

abbrev pub IsEscaped : Body → Type 0
IsEscaped (plain w) = ⊥
IsEscaped (escaped raw) = Unit {0}

pub data Token : Type 0 where
  integer : ℤ → Token
  float : Token
  atom : Body → Token
  text : Body → Token
  open_tuple : Token
  open_list : Token
  open_map : Token
  open_binary : Token
  mark : Mark → Token

-- a token where it stands, the bytes from its first one on, and the place behind it
pub record Lexeme : Type 0 where
  pub token : Token
  pub from : ℕ
  pub line : ℕ
  pub begin : List ℕ
  pub after : Place

abbrev pub body_of : SeenBody → Body
body_of (body.Plain w) = plain w.now
body_of (body.Escaped w) = escaped w.now

abbrev pub token_of : Seen → Token
token_of (seen.Integer n) = integer n
token_of (seen.Large n) = integer (number n.text.now)
token_of seen.Float = float
token_of (seen.Atom b) = atom (body_of b)
token_of (seen.Text b) = text (body_of b)
token_of seen.OpenTuple = open_tuple
token_of seen.OpenList = open_list
token_of seen.OpenMap = open_map
token_of seen.OpenBinary = open_binary
token_of (seen.Mark m) = mark m

abbrev pub lexeme_of : SeenLexeme → Lexeme
lexeme_of l = record { token = token_of l.token; from = l.from; line = l.line; begin = l.begin.now; after = place l.after }
