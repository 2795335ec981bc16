-- Numerals in base 8, 10 and 16, and what they count.
use Rattle.std.specs.Prelude.{◌≡◌, ◌≤◌, ◌<◌, ◌⊎◌, ℕ, ◌+◌, ◌*◌, List, [], ◌∷◌, ◌++◌}

-- the character c counts x: `0` to `9`, `A` to `F` or `a` to `f`
abbrev pub Counts : ℕ → ℕ → Type 0
Counts c x = ((c ≡ 48 + x) × (x < 10)) ⊎
    (((c ≡ 55 + x) × (10 ≤ x) × (x < 16)) ⊎ ((c ≡ 87 + x) × (10 ≤ x) × (x < 16)))

abbrev pub Digit : ℕ → ℕ → ℕ → Type 0
Digit base c x = (x < base) × Counts c x

-- one digit or more, and the number that they spell in a base
pub data Numeral : ℕ → List ℕ → ℕ → Type 0 where
  one_digit : {base c x : ℕ} → Digit base c x → Numeral base (c ∷ []) x
  digit_more : {base n c x : ℕ} {cs : List ℕ} → Numeral base cs n → Digit base c x
      → Numeral base (cs ++ c ∷ []) (base * n + x)
