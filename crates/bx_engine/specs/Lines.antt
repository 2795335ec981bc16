-- Lines of text.
use Rattle.std.specs.Prelude.{◌≡◌, ◌++◌, ◌==◌, ℕ, Bool, true, List, codes, not}
use Rattle.std.specs.List.{list_all}

abbrev pub is_unbroken : List ℕ → Bool
is_unbroken text = list_all (λ code. not (code == 10)) text

-- one line: a line feed ends it, and no other stands in it
abbrev pub IsLine : List ℕ → Type 0
IsLine line = (text : List ℕ) × (line ≡ text ++ codes "\n") × (is_unbroken text ≡ true)
