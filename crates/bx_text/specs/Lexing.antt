-- Which token begins at a place: the longest spelling of one (Erlang Reference Manual, "Data Types").
use Rattle.std.specs.Prelude.{ℕ, ◌+◌, Bool, true, ◌&&◌, ◌||◌, ◌==◌, nat_le, if◌then◌else◌, List, [], ◌∷◌, length, take, drop, codes, Option, Some, None, Result, Ok, Err}
use Rattle.std.specs.List.{prefix_len}
use Rattle.std.specs.Str.{bytes_eq}
use Rattle.std.specs.Str.Lossy.{utf8_valid_len}
use Rattle.bx_terms.specs.Outcomes.{◌>>=◌}
use Rattle.bx_terms.specs.declared.faults.Fault.{Fault, TheVariants.BadToken, TheVariants.Truncated, TheVariants.NotUtf8}
use Rattle.bx_text.specs.declared.tokens.Mark.TheVariants.{CloseTuple, CloseList, CloseBinary, Comma, Bar, Arrow, Colon, Slash, Stop, Fun, Other}
use Rattle.bx_text.specs.declared.escapes.Escape.{Escape}
use Rattle.bx_text.specs.Escapes.{open_in, is_whole, may_go_on, is_bad}
use Rattle.bx_text.specs.declared.kinds.Kind.{Kind}
use Rattle.bx_text.specs.declared.kinds.Kind.TheVariants as kind
use Rattle.bx_text.specs.Bytes.{begins, is_space, is_percent, is_digit, is_lower, is_name, is_accented, is_accented_lower, is_plain}
use Rattle.bx_text.specs.Number.{number}
use Rattle.bx_text.specs.Place.{Place, after, feeds}
use Rattle.bx_text.specs.Blank.{skip}
use Rattle.bx_text.specs.Token.{Body, plain, escaped, Token, integer, float, atom, text, open_tuple, open_list, open_map, open_binary, mark, Lexeme}

-- what a token that begins with this byte can be
abbrev pub punctuation_of : ℕ → Kind
punctuation_of b =
    if b == 123 then kind.OpenTuple
    else (if b == 125 then kind.Mark CloseTuple
    else (if b == 91 then kind.OpenList
    else (if b == 93 then kind.Mark CloseList
    else (if b == 44 then kind.Mark Comma
    else (if b == 124 then kind.Mark Bar
    else (if b == 46 then kind.Dot
    else (if b == 39 then kind.Quote
    else (if b == 34 then kind.DoubleQuote
    else (if b == 45 then kind.Minus
    else (if b == 58 then kind.Mark Colon
    else (if b == 47 then kind.Mark Slash
    else (if b == 40 || b == 41 then kind.Mark Other
    else (if b == 35 then kind.Hash
    else (if b == 60 then kind.Less
    else (if b == 61 then kind.Equals
    else (if b == 62 then kind.Greater
    else kind.Nothing))))))))))))))))

abbrev pub kind_of : ℕ → Kind
kind_of b =
    if is_lower b then kind.Letter
    else (if is_digit b then kind.Digit
    else (if b == 195 then kind.Accent
    else (if nat_le 128 b then kind.Foreign
    else punctuation_of b)))

-- how many bytes the longest run of an atom's letters at the front has; behind 195 a letter's second byte
abbrev mutual
  pub name_len : List ℕ → ℕ
  name_len [] = 0
  name_len (b ∷ bs) = if is_name b then 1 + name_len bs else (if b == 195 then accent_len bs else 0)

  pub accent_len : List ℕ → ℕ
  accent_len [] = 0
  accent_len (b ∷ bs) = if is_accented b then 2 + name_len bs else 0

-- how many bytes the first of those letters has
abbrev pub letter_width : List ℕ → ℕ
letter_width [] = 0
letter_width (b ∷ bs) = if is_name b then 1 else (if b == 195 && begins is_accented bs then 2 else 0)

-- the bare word `fun` is no atom
abbrev pub word : List ℕ → Token
word w = if bytes_eq w (codes "fun") then mark Fun else atom (plain w)

abbrev pub bare_at : Place → List ℕ × Place
bare_at p = (take (name_len p.rest) p.rest, after p (name_len p.rest))

abbrev pub word_at : Place → Result (Token × Place) Fault
word_at p = Ok (word (bare_at p).0, (bare_at p).1)

-- bytes from 128 on that begin no token: no UTF-8, or another character
abbrev pub foreign_at : Place → Result (Token × Place) Fault
foreign_at p = if utf8_valid_len p.rest == 0 then Err (NotUtf8 p.line) else Err (BadToken p.line)

abbrev pub accent_at : Place → Result (Token × Place) Fault
accent_at p = if begins is_accented_lower (drop 1 p.rest) then word_at p else foreign_at p

-- how many bytes a fraction takes, from its point on, or 0 where none begins
abbrev pub point_len : ℕ → ℕ
point_len n = if n == 0 then 0 else 1 + n

abbrev pub fraction_len : List ℕ → ℕ
fraction_len [] = 0
fraction_len (b ∷ bs) = if b == 46 then point_len (prefix_len is_digit bs) else 0

-- the same of an exponent, from its letter on
abbrev pub sign_len : List ℕ → ℕ
sign_len [] = 0
sign_len (b ∷ bs) = if b == 43 || b == 45 then 1 else 0

abbrev pub power_len : ℕ → ℕ → ℕ
power_len sign n = if n == 0 then 0 else 1 + sign + n

abbrev pub exponent_len : List ℕ → ℕ
exponent_len [] = 0
exponent_len (b ∷ bs) =
    if b == 101 || b == 69 then power_len (sign_len bs) (prefix_len is_digit (drop (sign_len bs) bs)) else 0

-- a number whose sign and digits take m bytes, and its fraction f
abbrev pub number_by : Place → ℕ → ℕ → Result (Token × Place) Fault
number_by p m f =
    if f == 0 then Ok (integer (number (take m p.rest)), after p m)
    else Ok (float, after p (m + f + exponent_len (drop (m + f) p.rest)))

-- a number of which the sign takes so many bytes, and the digits so many
abbrev pub digits_at : Place → ℕ → ℕ → Result (Token × Place) Fault
digits_at p sign n =
    if n == 0 then (if length p.rest == sign then Err (Truncated p.line) else Err (BadToken p.line))
    else number_by p (sign + n) (fraction_len (drop (sign + n) p.rest))

abbrev pub number_at : Place → ℕ → Result (Token × Place) Fault
number_at p sign = digits_at p sign (prefix_len is_digit (drop sign p.rest))

-- a full stop is followed by a space, a comment or the end of the text
abbrev pub ends : List ℕ → Bool
ends [] = true
ends (b ∷ bs) = is_space b || is_percent b

abbrev pub stop_at : Place → Result (Token × Place) Fault
stop_at p = if ends (drop 1 p.rest) then Ok (mark Stop, after p 1) else Err (BadToken p.line)

-- a mark of two bytes, of which the second is to be c
abbrev pub pair_on : ℕ → Token → List ℕ → Place → Result (Token × Place) Fault
pair_on c t [] p = Err (Truncated p.line)
pair_on c t (b ∷ bs) p = if b == c then Ok (t, after p 2) else Err (BadToken p.line)

abbrev pub pair_at : ℕ → Token → Place → Result (Token × Place) Fault
pair_at c t p = pair_on c t (drop 1 p.rest) p

-- how many bytes stand before the closing quote or the end of the text; a backslash takes the next byte with it, and
-- `\^` the byte behind it too, unless that is the quote
abbrev mutual
  pub body_len : ℕ → List ℕ → ℕ
  body_len quote [] = 0
  body_len quote (b ∷ bs) = if b == quote then 0 else (if b == 92 then 1 + escaped_len quote bs else 1 + body_len quote bs)

  pub escaped_len : ℕ → List ℕ → ℕ
  escaped_len quote [] = 0
  escaped_len quote (b ∷ bs) = if b == 94 then 1 + control_len quote bs else 1 + body_len quote bs

  pub control_len : ℕ → List ℕ → ℕ
  control_len quote [] = 0
  control_len quote (b ∷ bs) = if b == quote then 0 else 1 + body_len quote bs

-- how many bytes `\^` takes together with the byte behind it, unless that is the quote
abbrev pub control_width : ℕ → List ℕ → ℕ
control_width quote [] = 2
control_width quote (b ∷ bs) = if b == quote then 2 else 3

-- how many bytes the first part of these takes: a byte, a backslash with the byte that follows it, or `\^` with the byte
-- behind it
abbrev pub part_width : ℕ → List ℕ → ℕ
part_width quote [] = 0
part_width quote (b ∷ []) = if b == quote then 0 else 1
part_width quote (b ∷ c ∷ bs) = if b == quote then 0 else (if b == 92 then (if c == 94 then control_width quote bs else 2) else 1)

-- the place behind a quoted token with n bytes between the quotes, at the place of the first quote
abbrev pub behind : Place → List ℕ → ℕ → Place
behind p body n = record { rest = drop (n + 2) p.rest; at = p.at + (n + 2); line = p.line + feeds (take n body) }

-- the text ends where an escape is open, or none is
abbrev pub cut : Place → List ℕ → Escape → Fault
cut p body e = if is_bad e then BadToken p.line else Truncated (p.line + feeds body)

-- the bytes are no UTF-8 behind a front of them
abbrev pub broken : Place → List ℕ → Escape → Fault
broken p front e = if may_go_on e then NotUtf8 (p.line + feeds front) else BadToken p.line

abbrev pub ended_at : Place → List ℕ → ℕ → List ℕ → Result (Body × Place) Fault
ended_at p body n [] = Err (cut p body (open_in (take n body)))
ended_at p body n (b ∷ bs) =
    if is_whole (open_in (take n body)) then Ok (escaped (take n body), behind p body n) else Err (BadToken p.line)

abbrev pub valid_front : List ℕ → List ℕ
valid_front bs = take (utf8_valid_len bs) bs

-- n bytes with escapes
abbrev pub escaped_at : Place → List ℕ → ℕ → Result (Body × Place) Fault
escaped_at p body n =
    if utf8_valid_len (take n body) == n then ended_at p body n (drop n body)
    else Err (broken p (valid_front (take n body)) (open_in (valid_front (take n body))))

-- where the plain bytes behind an opening quote end: n of them, at the place of the quote
abbrev pub closing_at : ℕ → Place → List ℕ → ℕ → List ℕ → Result (Body × Place) Fault
closing_at quote p body n [] = Err (Truncated (p.line + feeds body))
closing_at quote p body n (b ∷ bs) =
    if b == 92 then escaped_at p body (body_len quote body) else Ok (plain (take n body), behind p body n)

abbrev pub body_at : ℕ → Place → List ℕ → ℕ → Result (Body × Place) Fault
body_at quote p body n =
    if utf8_valid_len (take n body) == n then closing_at quote p body n (drop n body)
    else Err (NotUtf8 (p.line + feeds (valid_front (take n body))))

abbrev pub quoted_at : ℕ → Place → Result (Body × Place) Fault
quoted_at quote p = body_at quote p (drop 1 p.rest) (prefix_len (is_plain quote) (drop 1 p.rest))

abbrev pub token_by : Kind → Place → Result (Token × Place) Fault
token_by kind.Letter p = word_at p
token_by kind.Accent p = accent_at p
token_by kind.Digit p = number_at p 0
token_by kind.Minus p = number_at p 1
token_by kind.Quote p = quoted_at 39 p >>= λ x. Ok (atom x.0, x.1)
token_by kind.DoubleQuote p = quoted_at 34 p >>= λ x. Ok (text x.0, x.1)
token_by kind.OpenTuple p = Ok (open_tuple, after p 1)
token_by kind.OpenList p = Ok (open_list, after p 1)
token_by (kind.Mark m) p = Ok (mark m, after p 1)
token_by kind.Dot p = stop_at p
token_by kind.Hash p = pair_at 123 open_map p
token_by kind.Less p = pair_at 60 open_binary p
token_by kind.Equals p = pair_at 62 (mark Arrow) p
token_by kind.Greater p = pair_at 62 (mark CloseBinary) p
token_by kind.Foreign p = foreign_at p
token_by kind.Nothing p = Err (BadToken p.line)

abbrev pub token_on : List ℕ → Place → Result (Token × Place) Fault
token_on [] p = Err (Truncated p.line)
token_on (b ∷ bs) p = token_by (kind_of b) p

-- the token that begins at a place
abbrev pub token_at : Place → Result (Token × Place) Fault
token_at p = token_on p.rest p

abbrev pub lexeme_from : Place → Result Lexeme Fault
lexeme_from p = token_at p >>= λ x. Ok (record { token = x.0; from = p.at; line = p.line; begin = p.rest; after = x.1 })

-- the first token from a place on
abbrev pub lexeme_at : Place → Result Lexeme Fault
lexeme_at p = skip p >>= lexeme_from

-- the atom's text that begins at a place, bare or quoted, if one begins there
abbrev pub name_by : Kind → Place → Result (Option (Body × Place)) Fault
name_by kind.Letter p = Ok (Some (plain (bare_at p).0, (bare_at p).1))
name_by kind.Accent p = if begins is_accented_lower (drop 1 p.rest) then Ok (Some (plain (bare_at p).0, (bare_at p).1)) else Ok None
name_by kind.Quote p = quoted_at 39 p >>= λ x. Ok (Some x)
name_by k p = Ok None

abbrev pub name_on : List ℕ → Place → Result (Option (Body × Place)) Fault
name_on [] p = Ok None
name_on (b ∷ bs) p = name_by (kind_of b) p

abbrev pub name_at : Place → Result (Option (Body × Place)) Fault
name_at p = name_on p.rest p
