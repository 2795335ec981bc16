-- The table of atoms: the texts, in order of first use. The number of an atom is its place, from 0.
-- An atom has at most 255 characters (Erlang Reference Manual, "Data Types", "Atom").
use Rattle.std.specs.Prelude.{◌≡◌, ℕ, ◌≤◌, Bool, not, is_none, filter, List, [], ◌∷◌, ◌++◌, Option, length, take, chars, bytes_eq, nat_le, position}
use Rattle.std.specs.List.{IsDistinct, AllPass}
use Rattle.std.specs.Option.{option_map_or}
use Rattle.std.specs.Str.{is_utf8}
use Rattle.bx_terms.specs.FixedAtoms.{fixed_atoms}

-- characters are Unicode scalar values, not bytes
abbrev pub is_short : List ℕ → Bool
is_short text = nat_le (length (chars text)) 255

-- the number of a text that the table holds
abbrev pub number_of : List (List ℕ) → List ℕ → Option ℕ
number_of texts text = position (bytes_eq text) texts

-- the table after a use of the text: a new one goes last
abbrev pub used : List (List ℕ) → List ℕ → List (List ℕ)
used texts text = option_map_or (λ _. texts) (number_of texts text) (texts ++ text ∷ [])

-- whether the table lacks the text
abbrev pub is_new : List (List ℕ) → List ℕ → Bool
is_new texts text = is_none (number_of texts text)

-- the texts of a list in the order of their first use, each once
abbrev pub first_uses : List (List ℕ) → List (List ℕ)
first_uses [] = []
first_uses (text ∷ more) = text ∷ filter (λ other. not (bytes_eq text other)) (first_uses more)

-- what is true of every table
pub record IsAtomTable (texts : List (List ℕ)) : Type 0 where
  pub at_most : length texts ≤ 65536
  pub distinct : IsDistinct bytes_eq texts
  pub short : AllPass is_short texts
  pub utf8 : AllPass is_utf8 texts
  pub fixed : take 80 texts ≡ fixed_atoms
