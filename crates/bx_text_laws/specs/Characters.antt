-- Classes of characters, by their codes.
-- Source: Erlang Reference Manual, "Character Set and Source File Encoding".
use Rattle.std.specs.Prelude.{◌≡◌, ◌≢◌, ◌≤◌, ◌⊎◌, ℕ}

abbrev pub Between : ℕ → ℕ → ℕ → Type 0
Between low high c = (low ≤ c) × (c ≤ high)

-- any of the first 33 characters, the line feed among them
abbrev pub IsSpace : ℕ → Type 0
IsSpace c = c ≤ 32

-- `a` to `z`, or U+00DF to U+00FF without U+00F7
abbrev pub IsSmall : ℕ → Type 0
IsSmall c = Between 97 122 c ⊎ (Between 0xDF 0xFF c × (c ≢ 0xF7))

-- a letter of ASCII or U+00C0 to U+00FF without U+00D7 and U+00F7, a digit, `_` or `@`
abbrev pub IsNameCharacter : ℕ → Type 0
IsNameCharacter c =
    Between 97 122 c ⊎ (Between 65 90 c ⊎
    (Between 48 57 c ⊎ ((c ≡ 95) ⊎
    ((c ≡ 64) ⊎ (Between 0xC0 0xFF c × (c ≢ 0xD7) × (c ≢ 0xF7))))))

-- `@` to `_`, or `a` to `z`
abbrev pub IsControl : ℕ → Type 0
IsControl c = Between 64 95 c ⊎ Between 97 122 c
