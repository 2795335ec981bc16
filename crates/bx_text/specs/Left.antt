-- What is left of a word behind characters with which it begins; nothing where it does not begin with them.
use Rattle.std.specs.Prelude.{◌≡◌, ℕ, List, ◌++◌, Option, Some, None}
use Rattle.std.specs.Borrow.{Bor}

abbrev pub IsLeft : List ℕ → List ℕ → Option (Bor (List ℕ)) → Type 0
IsLeft word ks (Some left) = word ≡ ks ++ left.now
IsLeft word ks None = (rest : List ℕ) → word ≡ ks ++ rest → ⊥
