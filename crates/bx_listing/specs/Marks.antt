-- How locations are kept: the names of files, the places in them that lines name, and of each item the number of its place,
-- from 1, or 0 for none.
use Rattle.std.specs.Prelude.{ℕ, zero, suc, ◌<◌, ◌≤◌, List, [], Option, None, get_or, length, slice_get}
use Rattle.std.specs.List.{All}
use Rattle.bx_listing.specs.declared.locations.Mark.{Mark}
use Rattle.bx_listing.specs.Locations.{Location}

-- the place that a mark names
abbrev pub marked : List (List ℕ) → Mark → Location
marked names m = (get_or names m.file [], m.line)

-- the name of each mark's file is there
abbrev pub AreMarks : List (List ℕ) → List Mark → Type 0
AreMarks names marks = All (λ m. m.file < length names) marks

-- the place of that number
abbrev pub place : List Location → ℕ → Option Location
place places zero = None
place places (suc k) = slice_get places k

abbrev pub IsPlace : List Location → ℕ → Type 0
IsPlace places k = k ≤ length places
