-- What escapes stand for between quotes (Erlang Reference Manual, "Escape Sequences").
use Rattle.std.specs.Prelude.{ℕ, ◌+◌, ◌-◌, ◌*◌, ◌%◌, Bool, true, false, ◌&&◌, ◌||◌, ◌==◌, nat_le, nat_lt, if◌then◌else◌, List, [], ◌∷◌, ◌++◌, Option, Some, None}
use Rattle.std.specs.List.{fold}
use Rattle.std.specs.Str.{chars, encode_utf8_all}
use Rattle.bx_text.specs.declared.escapes.Escape.{Escape}
use Rattle.bx_text.specs.declared.escapes.Escape.TheVariants.{Plain, Begun, Octal, Octals, Hex, HexDigit, Brace, Braced, Control, Bad}

-- what a digit of base 16 counts, or 16
abbrev pub digit : ℕ → ℕ
digit c =
    if nat_le 48 c && nat_le c 57 then c - 48
    else (if nat_le 65 c && nat_le c 70 then c - 55
    else (if nat_le 97 c && nat_le c 102 then c - 87
    else 16))

abbrev pub is_octal : ℕ → Bool
is_octal c = nat_lt (digit c) 8

abbrev pub is_hex : ℕ → Bool
is_hex c = nat_lt (digit c) 16

-- from `@` to `_`, or a letter
abbrev pub is_control : ℕ → Bool
is_control c = (nat_le 64 c && nat_le c 95) || (nat_le 97 c && nat_le c 122)

-- a code that is a character's
abbrev pub is_scalar : ℕ → Bool
is_scalar v = nat_lt v 0xd800 || (nat_le 0xe000 v && nat_lt v 0x110000)

-- what a letter behind a backslash stands for; any other character stands for itself
abbrev pub named : ℕ → ℕ
named c =
    if c == 98 then 8
    else (if c == 100 then 127
    else (if c == 101 then 27
    else (if c == 102 then 12
    else (if c == 110 then 10
    else (if c == 114 then 13
    else (if c == 115 then 32
    else (if c == 116 then 9
    else (if c == 118 then 11
    else c))))))))

-- a digit of this value more; past the last code there is, none is a character's
abbrev pub braced : ℕ → ℕ → ℕ
braced v d = if nat_lt v 0x11000 then 16 * v + d else 0x110000

-- what is open behind a character c
abbrev pub begins_with : ℕ → Escape
begins_with c = if c == 92 then Begun else Plain

abbrev pub plain_where : Bool → Escape
plain_where good = if good then Plain else Bad

abbrev pub step : Escape → ℕ → Escape
step Plain c = begins_with c
step Begun c =
    if is_octal c then Octal (digit c)
    else (if c == 120 then Hex
    else (if c == 94 then Control
    else Plain))
step (Octal v) c = if is_octal c then Octals (8 * v + digit c) else begins_with c
step (Octals v) c = if is_octal c then Plain else begins_with c
step Hex c = if c == 123 then Brace else (if is_hex c then HexDigit (digit c) else Bad)
step (HexDigit v) c = plain_where (is_hex c)
step Brace c = if is_hex c then Braced (digit c) else Bad
step (Braced v) c = if is_hex c then Braced (braced v (digit c)) else (if c == 125 && is_scalar v then Plain else Bad)
step Control c = plain_where (is_control c)
step Bad c = Bad

-- a character that stands for itself, unless it begins an escape
abbrev pub itself : ℕ → List ℕ
itself c = if c == 92 then [] else c ∷ []

-- the character of a code, if it is one's
abbrev pub coded : ℕ → List ℕ
coded v = if is_scalar v then v ∷ [] else []

abbrev pub coded_if : Bool → ℕ → List ℕ
coded_if good v = if good then coded v else []

-- the characters that are known with c
abbrev pub known : Escape → ℕ → List ℕ
known Plain c = itself c
known Begun c = if is_octal c || c == 120 || c == 94 then [] else named c ∷ []
known (Octal v) c = if is_octal c then [] else coded v ++ itself c
known (Octals v) c = if is_octal c then coded (8 * v + digit c) else coded v ++ itself c
known (HexDigit v) c = coded_if (is_hex c) (16 * v + digit c)
known (Braced v) c = coded_if (c == 125) v
known Control c = coded_if (is_control c) (c % 32)
known s c = []

-- the character that the end of the text makes known
abbrev pub known_last : Escape → List ℕ
known_last (Octal v) = coded v
known_last (Octals v) = coded v
known_last s = []

-- a character or none
abbrev pub one_of : Option ℕ → List ℕ
one_of None = []
one_of (Some c) = c ∷ []

-- two of them at most
abbrev pub both_of : Option ℕ × Option ℕ → List ℕ
both_of x = one_of x.0 ++ one_of x.1

-- all characters that are known with these
abbrev pub known_in : Escape → List ℕ → List ℕ
known_in s [] = []
known_in s (c ∷ cs) = known s c ++ known_in (step s c) cs

-- what is open behind a text
abbrev pub open_in : List ℕ → Escape
open_in bytes = fold step Plain (chars bytes)

-- no escape is open that needs more
abbrev pub is_whole : Escape → Bool
is_whole Plain = true
is_whole (Octal v) = true
is_whole (Octals v) = true
is_whole s = false

-- any character may follow
abbrev pub may_go_on : Escape → Bool
may_go_on Begun = true
may_go_on s = is_whole s

abbrev pub is_bad : Escape → Bool
is_bad Bad = true
is_bad s = false

-- the text that a spelling with escapes stands for, in UTF-8
abbrev pub decoded : List ℕ → List ℕ
decoded raw = encode_utf8_all (known_in Plain (chars raw) ++ known_last (open_in raw))
