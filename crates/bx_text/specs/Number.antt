-- The integer that a spelling stands for: an optional minus sign, and decimal digits.
use Rattle.std.specs.Prelude.{◌≡◌, ◌⊎◌, ℕ, ◌+◌, ◌-◌, ◌*◌, ◌^◌, Bool, true, false, nat_le, ◌==◌, if◌then◌else◌, ℤ, pos, negsuc, neg_ℤ, List, [], ◌∷◌}
use Rattle.std.specs.List.{fold, list_all}
use Rattle.bx_text.specs.Bytes.{is_digit}

-- one digit more, by its byte
abbrev pub with_digit : ℕ → ℕ → ℕ
with_digit n b = 10 * n + (b - 48)

abbrev pub decimal : List ℕ → ℕ
decimal digits = fold with_digit 0 digits

abbrev pub signed : Bool → ℕ → ℤ
signed negative n = if negative then neg_ℤ (pos n) else pos n

abbrev pub number : List ℕ → ℤ
number [] = pos 0
number (b ∷ bs) = if b == 45 then signed true (decimal bs) else signed false (decimal (b ∷ bs))

-- no byte, or a minus sign
abbrev pub IsSign : List ℕ → Type 0
IsSign bs = (bs ≡ []) ⊎ (bs ≡ 45 ∷ [])

-- an optional minus sign, and digits
abbrev pub is_spelling : List ℕ → Bool
is_spelling [] = true
is_spelling (b ∷ bs) = if b == 45 then list_all is_digit bs else list_all is_digit (b ∷ bs)

-- outside 64 bits
abbrev pub is_large : ℤ → Bool
is_large (pos n) = nat_le (2 ^ 63) n
is_large (negsuc n) = nat_le (2 ^ 63) n
