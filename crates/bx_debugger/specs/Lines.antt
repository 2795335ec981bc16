-- The lines of a text: each is ended by a line feed, which the last may lack.
use Rattle.std.specs.Prelude.{ℕ, ◌==◌, if◌then◌else◌, List, [], ◌∷◌, ◌++◌}

-- the lines that are ended, the first of which begins with `line`
abbrev pub ended_lines : List ℕ → List ℕ → List (List ℕ)
ended_lines line [] = []
ended_lines line (b ∷ bytes) = if b == 10 then line ∷ ended_lines [] bytes else ended_lines (line ++ b ∷ []) bytes

-- what has begun behind them
abbrev pub begun_line : List ℕ → List ℕ → List ℕ
begun_line line [] = line
begun_line line (b ∷ bytes) = if b == 10 then begun_line [] bytes else begun_line (line ++ b ∷ []) bytes

abbrev pub last_line : List ℕ → List (List ℕ)
last_line [] = []
last_line (b ∷ bytes) = (b ∷ bytes) ∷ []
