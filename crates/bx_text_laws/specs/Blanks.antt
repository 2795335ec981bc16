-- What may stand between tokens: spaces and comments.
-- Source: Erlang Reference Manual, "Character Set and Source File Encoding" and "Modules" (comments).
use Rattle.std.specs.Prelude.{◌≡◌, ◌≢◌, ℕ, List, [], ◌∷◌, ◌++◌, IsUtf8}
use Rattle.std.specs.List.{AllByRecursion}
use Rattle.bx_text.specs.Place.{Place}
use Rattle.bx_text_laws.specs.Characters.{IsSpace}
use Rattle.bx_text_laws.specs.Tokens.{Stands}

-- the inside of a comment: a text in UTF-8 on one line
abbrev pub OnLine : List ℕ → Type 0
OnLine bytes = AllByRecursion (λ b. b ≢ 10) bytes × IsUtf8 bytes

-- a line ends at a line feed, or where the text ends
abbrev pub LineEnds : List ℕ → Type 0
LineEnds [] = Unit {0}
LineEnds (b ∷ bs) = b ≡ 10

-- spaces and comments, each from `%` to the end of its line; the rest follows them
pub data Blank : List ℕ → List ℕ → Type 0 where
  nothing : {rest : List ℕ} → Blank [] rest
  space : {b : ℕ} {bytes rest : List ℕ} → IsSpace b → Blank bytes rest → Blank (b ∷ bytes) rest
  comment : (text : List ℕ) {bytes rest : List ℕ} → OnLine text → LineEnds (bytes ++ rest)
      → Blank bytes rest → Blank (37 ∷ (text ++ bytes)) rest

-- neither a space nor a comment begins
abbrev pub NoBlank : List ℕ → Type 0
NoBlank [] = Unit {0}
NoBlank (b ∷ bs) = (IsSpace b → ⊥) × (b ≢ 37)

-- behind all spaces and comments that stand at p, q is the place
abbrev pub Passes : Place → Place → Type 0
Passes p q = (bytes : List ℕ) × (p.rest ≡ bytes ++ q.rest) × Blank bytes q.rest × NoBlank q.rest
    × Stands p bytes q

-- behind spaces and comments that stand at p, a comment at q is no text in UTF-8
abbrev pub Spoilt : Place → Place → Type 0
Spoilt p q = (bytes text rest : List ℕ) × (p.rest ≡ bytes ++ q.rest) × Blank bytes q.rest
    × (q.rest ≡ 37 ∷ (text ++ rest)) × AllByRecursion (λ b. b ≢ 10) text × LineEnds rest
    × (IsUtf8 text → ⊥) × Stands p bytes q
