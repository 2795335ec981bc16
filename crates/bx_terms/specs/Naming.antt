-- What naming a text gives: its old number, or the next one, or a refusal.
use Rattle.std.specs.Prelude.{◌≡◌, ℕ, List, [], ◌∷◌, ◌++◌, Option, Some, None, Result, Ok, Err, length, nat_lt, if◌then◌else◌}
use Rattle.bx_terms.specs.declared.atom_table.AtomId.{AtomId}
use Rattle.bx_terms.specs.declared.faults.Fault.{Fault, TheVariants.TooManyAtoms, TheVariants.AtomTooLong}
use Rattle.bx_terms.specs.AtomTable.{is_short, number_of}
use Rattle.bx_terms.specs.Outcomes.{◌>>=◌}

abbrev pub atom : ℕ → AtomId
atom number = record { 0 = number }

-- a text that is held keeps its number, and a new one goes last, where 65,536 are not held yet
abbrev pub numbered : Option ℕ → List (List ℕ) → List ℕ → Result (List (List ℕ) × AtomId) Fault
numbered (Some number) texts text = Ok (texts, atom number)
numbered None texts text =
    if nat_lt (length texts) 65536 then Ok (texts ++ text ∷ [], atom (length texts)) else Err (TooManyAtoms None)

abbrev pub naming : List (List ℕ) → List ℕ → Result (List (List ℕ) × AtomId) Fault
naming texts text =
    if is_short text then numbered (number_of texts text) texts text else Err (AtomTooLong None)

-- naming the text adds it to the table
abbrev pub Adds : List (List ℕ) → List ℕ → Type 0
Adds texts text = naming texts text ≡ Ok (texts ++ text ∷ [], atom (length texts))

-- naming each text in turn
abbrev pub naming_all : List (List ℕ) → List (List ℕ) → Result (List (List ℕ)) Fault
naming_all texts [] = Ok texts
naming_all texts (text ∷ more) = naming texts text >>= λ named. naming_all named.0 more
