-- Classes of bytes in a term text (Erlang Reference Manual, "Character Set and Source File Encoding").
use Rattle.std.specs.Prelude.{ℕ, Bool, false, not, ◌&&◌, ◌||◌, ◌==◌, nat_le, List, [], ◌∷◌}

-- a space is any byte from 0 to 32
abbrev pub is_space : ℕ → Bool
is_space b = nat_le b 32

abbrev pub is_feed : ℕ → Bool
is_feed b = b == 10

abbrev pub is_not_feed : ℕ → Bool
is_not_feed b = not (b == 10)

abbrev pub is_percent : ℕ → Bool
is_percent b = b == 37

abbrev pub is_digit : ℕ → Bool
is_digit b = nat_le 48 b && nat_le b 57

abbrev pub is_lower : ℕ → Bool
is_lower b = nat_le 97 b && nat_le b 122

abbrev pub is_upper : ℕ → Bool
is_upper b = nat_le 65 b && nat_le b 90

-- a byte that may follow in a bare atom
abbrev pub is_name : ℕ → Bool
is_name b = is_lower b || is_upper b || is_digit b || b == 95 || b == 64

-- the byte behind 195 of the letters U+00C0 to U+00FF, which U+00D7 and U+00F7 are none of
abbrev pub is_accented : ℕ → Bool
is_accented b = nat_le 128 b && nat_le b 191 && not (b == 151) && not (b == 183)

-- the same of those that may begin an atom: U+00DF to U+00FF without U+00F7
abbrev pub is_accented_lower : ℕ → Bool
is_accented_lower b = nat_le 159 b && nat_le b 191 && not (b == 183)

-- a byte of a quoted token that is neither the closing quote nor a backslash
abbrev pub is_plain : ℕ → ℕ → Bool
is_plain quote b = not (b == quote) && not (b == 92)

-- whether the bytes begin with one that passes
abbrev pub begins : (ℕ → Bool) → List ℕ → Bool
begins p [] = false
begins p (b ∷ bs) = p b
