-- Choices as one line of a plan, equal neighbours in one entry.
use Rattle.std.specs.Prelude.{ℕ, ◌+◌, ◌==◌, List, [], ◌∷◌, ◌++◌, if◌then◌else◌, codes, decimal}
use Rattle.bx_plan.specs.Entry.{Entry}
use Rattle.bx_plan.specs.Nodes.{choice_eq}
use Rattle.bx_world.specs.declared.choices.Choice.{Choice}
use Rattle.bx_world.specs.Texts.{spelling}

-- a choice before entries: in one with the first of them, where that makes the same
abbrev pub before : Choice → List Entry → List Entry
before choice [] = (choice, 1) ∷ []
before choice (entry ∷ more) =
    if choice_eq choice entry.0 then (choice, entry.1 + 1) ∷ more else (choice, 1) ∷ entry ∷ more

abbrev pub gathered : List Choice → List Entry
gathered [] = []
gathered (choice ∷ more) = before choice (gathered more)

-- ` C`, or ` C*N` where the choice is made more than once
abbrev pub entry_words : Entry → List ℕ
entry_words entry =
    codes " " ++ spelling entry.0 ++ (if entry.1 == 1 then [] else codes "*" ++ decimal entry.1)

abbrev pub entries_words : List Entry → List ℕ
entries_words [] = []
entries_words (entry ∷ more) = entry_words entry ++ entries_words more

-- `NAME: C C*N ..`
abbrev pub plan_line : List ℕ → List Choice → List ℕ
plan_line name choices = name ++ codes ":" ++ entries_words (gathered choices)
