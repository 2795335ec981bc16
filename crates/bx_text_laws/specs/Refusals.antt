-- Which fault a text has where no token begins it.
-- Source: Erlang Reference Manual, "Data Types", "Escape Sequences" and "Character Set and Source
-- File Encoding".
use Rattle.std.specs.Prelude.{◌≡◌, ℕ, ◌+◌, List, [], ◌∷◌, ◌++◌, codes}
use Rattle.std.specs.Str.{IsValidUpTo}
use Rattle.bx_terms.specs.declared.faults.Fault.{Fault, TheVariants.BadToken, TheVariants.Truncated, TheVariants.NotUtf8}
use Rattle.bx_text_laws.specs.Numerals.{Digit, Numeral}
use Rattle.bx_text_laws.specs.Quoted.{IsQuote, Quoted}
use Rattle.bx_text_laws.specs.Spelling.{InUtf8}
use Rattle.bx_text_laws.specs.Tokens.{lines}

-- the prefix of an escape that has to go on: a backslash alone, or with `x`, with `x` and a
-- digit of base 16, with `x{`, with `x{` and such digits, whatever they count, or with `^`
pub data Unfinished : List ℕ → Type 0 where
  slash : Unfinished (92 ∷ [])
  hex : Unfinished (92 ∷ 120 ∷ [])
  hex_digit : {c x : ℕ} → Digit 16 c x → Unfinished (92 ∷ 120 ∷ c ∷ [])
  brace : Unfinished (92 ∷ 120 ∷ 123 ∷ [])
  braced : {ds : List ℕ} {n : ℕ} → Numeral 16 ds n → Unfinished (92 ∷ 120 ∷ 123 ∷ ds)
  control : Unfinished (92 ∷ 94 ∷ [])

-- a quote, behind it characters that may stand so between quotes, and then these more, all in UTF-8
abbrev pub Unclosed : List ℕ → List ℕ → Type 0
Unclosed text more = (q : ℕ) × (bytes cs vs : List ℕ) × (text ≡ q ∷ bytes) × IsQuote q
    × Quoted q cs vs × InUtf8 (cs ++ more) bytes

-- the text ends before a token, behind a minus sign, behind the first byte of a mark of two, or
-- behind a quote and before the one that closes it, in an escape or not
pub data Cut : List ℕ → Type 0 where
  nothing : Cut []
  minus : Cut (codes "-")
  hash : Cut (codes "#")
  less : Cut (codes "<")
  equals : Cut (codes "=")
  greater : Cut (codes ">")
  quoted : {text : List ℕ} → Unclosed text [] → Cut text
  escape : {text more : List ℕ} → Unclosed text more → Unfinished more → Cut text

-- behind these bytes any character may come: before a token, behind a quote and whole characters,
-- or behind a backslash there
pub data Awaits : List ℕ → Type 0 where
  nothing : Awaits []
  quoted : {front : List ℕ} → Unclosed front [] → Awaits front
  slash : {front : List ℕ} → Unclosed front (92 ∷ []) → Awaits front

-- bytes follow, and no character in UTF-8 begins them
abbrev pub NoCharacter : List ℕ → Type 0
NoCharacter text = IsValidUpTo text 0

-- behind this front of the text any character may come, and no character in UTF-8 does
abbrev pub Breaks : List ℕ → List ℕ → Type 0
Breaks text front = (rest : List ℕ) × (text ≡ front ++ rest) × Awaits front × NoCharacter rest

-- the fault of a text that begins on a line, where no token begins it: with the line in which it
-- ends, with the line of the first byte that is no UTF-8, and with its own line else
pub data Fails : List ℕ → ℕ → Fault → Type 0 where
  truncated : {text : List ℕ} {line : ℕ} → Cut text
      → Fails text line (Truncated (line + lines text))
  not_utf8 : {text front : List ℕ} {line : ℕ} → Breaks text front
      → Fails text line (NotUtf8 (line + lines front))
  bad_token : {text : List ℕ} {line : ℕ} → (Cut text → ⊥)
      → ((front : List ℕ) → Breaks text front → ⊥) → Fails text line (BadToken line)
