-- Markup: texts and elements in order. An element has attributes, and markup inside; so each tag that is opened is closed.
-- Source: Extensible Markup Language 1.0, sections 2.2 "Characters", 2.4 "Character Data and Markup" and 3.1 "Start-Tags, End-Tags".
use Rattle.std.specs.Prelude.{ℕ, ◌==◌, ◌&&◌, ◌++◌, Bool, false, not, List, [], chars, codes, decimal, if◌then◌else◌, nat_le}
use Rattle.std.specs.Char.{encode_utf8}
use Rattle.std.specs.Fmt.{digits}
use Rattle.std.specs.List.{flat_map}

pub data Markup : Type 0 where
  nothing : Markup
  words : List ℕ → Markup
  element : List ℕ → List ℕ → Markup → Markup
  both : Markup → Markup → Markup

-- one, and the other behind it
infixr 20 ◌⨾◌
abbrev pub ◌⨾◌ : Markup → Markup → Markup
a ⨾ b = both a b

-- no control code, and none of the two codes that are no characters of XML
abbrev pub is_shown : ℕ → Bool
is_shown c = nat_le 32 c && not (c == 127) && not (c == 65534) && not (c == 65535)

-- what shows as itself; any other as reports spell it
abbrev pub plain : ℕ → List ℕ
plain c = if is_shown c then encode_utf8 c else codes "\\x{" ++ digits 16 false c ++ codes "}"

-- a character of a text: a mark of markup goes by its name
abbrev pub character : ℕ → List ℕ
character c =
    if c == 38 then codes "&amp;" else if c == 60 then codes "&lt;" else if c == 62 then codes "&gt;"
    else if c == 34 then codes "&quot;" else if c == 39 then codes "&#39;" else plain c

abbrev pub escaped : List ℕ → List ℕ
escaped text = flat_map character (chars text)

abbrev pub written : Markup → List ℕ
written nothing = []
written (words text) = escaped text
written (element name attributes inside) =
    codes "<" ++ name ++ attributes ++ codes ">" ++ written inside ++ codes "</" ++ name ++ codes ">\n"
written (both a b) = written a ++ written b

-- ` NAME="VALUE"`; a value is a number or a fixed word
abbrev pub valued : List ℕ → List ℕ → List ℕ
valued name value = codes " " ++ name ++ codes "=\"" ++ value ++ codes "\""

abbrev pub counted : List ℕ → ℕ → List ℕ
counted name n = valued name (decimal n)
