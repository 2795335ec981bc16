-- How an atom is printed, from its text.
-- Source: Erlang Reference Manual, "Data Types", "Atom" and "Escape Sequences"; "Introduction", "Reserved Words".
use Rattle.std.specs.Prelude.{ℕ, Bool, false, ◌&&◌, ◌||◌, not, ◌==◌, nat_le, nat_lt, if◌then◌else◌, List, [], ◌∷◌, ◌++◌, codes, bytes_eq, chars}
use Rattle.std.specs.List.{list_any, list_all, flat_map}
use Rattle.std.specs.Char.{encode_utf8}
use Rattle.std.specs.Fmt.{digits}

abbrev pub reserved_words : List (List ℕ)
reserved_words =
    codes "after" ∷ codes "and" ∷ codes "andalso" ∷ codes "band" ∷ codes "begin" ∷ codes "bnot" ∷ codes "bor"
    ∷ codes "bsl" ∷ codes "bsr" ∷ codes "bxor" ∷ codes "case" ∷ codes "catch" ∷ codes "cond" ∷ codes "div" ∷ codes "end"
    ∷ codes "fun" ∷ codes "if" ∷ codes "let" ∷ codes "not" ∷ codes "of" ∷ codes "or" ∷ codes "orelse" ∷ codes "receive"
    ∷ codes "rem" ∷ codes "try" ∷ codes "when" ∷ codes "xor" ∷ []

-- from `low` to `high`
abbrev pub is_between : ℕ → ℕ → ℕ → Bool
is_between low high b = nat_le low b && nat_le b high

abbrev pub is_lower : ℕ → Bool
is_lower = is_between 97 122

-- ASCII letters, digits, the underscore (95) and the at sign (64); no byte of another character is among these
abbrev pub is_name_byte : ℕ → Bool
is_name_byte b = is_lower b || is_between 65 90 b || is_between 48 57 b || b == 95 || b == 64

abbrev pub begins_lower : List ℕ → Bool
begins_lower [] = false
begins_lower (b ∷ rest) = is_lower b

abbrev pub is_reserved : List ℕ → Bool
is_reserved text = list_any (bytes_eq text) reserved_words

-- a text that needs no quotes begins with a to z, goes on as a name does, and is no reserved word
abbrev pub is_bare : List ℕ → Bool
is_bare text = begins_lower text && list_all is_name_byte text && not (is_reserved text)

-- a control character that has no escape of its own: its code between `\x{` and `}`
abbrev pub by_code : ℕ → List ℕ
by_code c = codes "\\x{" ++ digits 16 false c ++ codes "}"

-- a character between quotes: quote (39), backslash (92), line feed (10), carriage return (13), tab (9), other codes
-- below 32 and 127, and all else as itself
abbrev pub escaped : ℕ → List ℕ
escaped c =
    if c == 39 then codes "\\'" else (if c == 92 then codes "\\\\" else (if c == 10 then codes "\\n" else
    (if c == 13 then codes "\\r" else (if c == 9 then codes "\\t" else (if nat_lt c 32 || c == 127 then by_code c else encode_utf8 c)))))

abbrev pub quoted : List ℕ → List ℕ
quoted text = codes "'" ++ flat_map escaped (chars text) ++ codes "'"

abbrev pub printed_atom : List ℕ → List ℕ
printed_atom text = if is_bare text then text else quoted text
