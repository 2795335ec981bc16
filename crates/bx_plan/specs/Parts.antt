-- The parts that a cut text has left.
use Rattle.std.specs.Prelude.{◌≡◌, ℕ, ◌+◌, ◌<◌, List, [], Option, None, Some, drop, length, take}
use Rattle.std.specs.Option.{option_map_or}
use Rattle.bx_plan.specs.declared.parts.Parts.{Parts}
use Rattle.bx_plan.specs.Reading.{cut, parts_of}

abbrev pub parts_left : Parts → List (List ℕ)
parts_left parts = option_map_or (λ text. parts_of parts.mark text.now) parts.rest []

-- the place of the first mark, at which the text is cut
abbrev pub IsPlace : ℕ → List ℕ → Option ℕ → Type 0
IsPlace mark text None = cut mark text ≡ None
IsPlace mark text (Some at) = (at < length text) × (cut mark text ≡ Some (take at text, drop (at + 1) text))
