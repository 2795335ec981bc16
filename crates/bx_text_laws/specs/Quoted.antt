-- What characters between quotes stand for.
-- Source: Erlang Reference Manual, "Escape Sequences".
use Rattle.std.specs.Prelude.{◌≡◌, ◌≢◌, ◌≤◌, ◌⊎◌, ℕ, ◌%◌, List, [], ◌∷◌, ◌++◌, length}
use Rattle.std.specs.Char.{IsScalar}
use Rattle.bx_text_laws.specs.Characters.{IsControl}
use Rattle.bx_text_laws.specs.Numerals.{Digit, Numeral}

-- what a letter behind a backslash stands for: `b` backspace, `d` delete, `e` escape, `f` form feed, `n` line feed,
-- `r` carriage return, `s` space, `t` tab, `v` vertical tab
pub data Named : ℕ → ℕ → Type 0 where
  backspace : Named 98 8
  delete : Named 100 127
  escape : Named 101 27
  form_feed : Named 102 12
  line_feed : Named 110 10
  carriage_return : Named 114 13
  space : Named 115 32
  tab : Named 116 9
  vertical_tab : Named 118 11

-- a single quote or a double one
abbrev pub IsQuote : ℕ → Type 0
IsQuote q = (q ≡ 39) ⊎ (q ≡ 34)

-- `0` to `7`
abbrev pub IsOctal : ℕ → Type 0
IsOctal c = (x : ℕ) × Digit 8 c x

abbrev pub IsNamed : ℕ → Type 0
IsNamed c = (v : ℕ) × Named c v

-- no octal digit comes next
abbrev pub NoOctal : List ℕ → Type 0
NoOctal [] = Unit {0}
NoOctal (c ∷ cs) = IsOctal c → ⊥

-- a backslash before the character begins no other escape
abbrev pub IsOther : ℕ → Type 0
IsOther c = (IsNamed c → ⊥) × (IsOctal c → ⊥) × (c ≢ 120) × (c ≢ 94)

-- characters between quotes q, and the characters that they stand for; 92 is the backslash
pub data Quoted : ℕ → List ℕ → List ℕ → Type 0 where
  none : {q : ℕ} → Quoted q [] []
  itself : {q c : ℕ} {cs vs : List ℕ} → c ≢ q → c ≢ 92 → Quoted q cs vs → Quoted q (c ∷ cs) (c ∷ vs)
  named : {q c v : ℕ} {cs vs : List ℕ} → Named c v → Quoted q cs vs
      → Quoted q (92 ∷ c ∷ cs) (v ∷ vs)
  -- one to three octal digits, of which there are as many as follow
  octal : {q v : ℕ} {ds cs vs : List ℕ} → Numeral 8 ds v → length ds ≤ 3
      → (length ds ≡ 3) ⊎ NoOctal cs → Quoted q cs vs → Quoted q (92 ∷ (ds ++ cs)) (v ∷ vs)
  -- `x` and two digits of base 16
  hex : {q v : ℕ} {ds cs vs : List ℕ} → Numeral 16 ds v → length ds ≡ 2 → Quoted q cs vs
      → Quoted q (92 ∷ 120 ∷ (ds ++ cs)) (v ∷ vs)
  -- `x{`, digits of base 16 and `}`, where they are the code of a character
  braced : {q v : ℕ} {ds cs vs : List ℕ} → Numeral 16 ds v → IsScalar v → Quoted q cs vs
      → Quoted q (92 ∷ 120 ∷ 123 ∷ (ds ++ 125 ∷ cs)) (v ∷ vs)
  -- `^` and a character, of whose code the low five bits are taken
  control : {q c : ℕ} {cs vs : List ℕ} → IsControl c → Quoted q cs vs
      → Quoted q (92 ∷ 94 ∷ c ∷ cs) (c % 32 ∷ vs)
  -- any other character stands for itself behind a backslash
  other : {q c : ℕ} {cs vs : List ℕ} → IsOther c → Quoted q cs vs → Quoted q (92 ∷ c ∷ cs) (c ∷ vs)
