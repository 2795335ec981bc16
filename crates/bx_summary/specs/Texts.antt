-- The text of a summary. Lines are ended by a line feed.
use Rattle.std.specs.Prelude.{ℕ, List, [], ◌∷◌, ◌++◌, codes, decimal, length}
use Rattle.bx_board.specs.declared.reports.Scheduled.{Scheduled}
use Rattle.bx_summary.specs.Counted.{Counted, counted}
use Rattle.bx_summary.specs.Endings.{ending_lines}

-- how many schedules have the outcome, and the name of the first; then its lines
abbrev pub heading : Counted → List ℕ
heading outcome = codes "outcome of " ++ decimal outcome.1 ++ codes " schedules, first " ++ outcome.0.name ++ codes "\n"

abbrev pub outcome_text : List (List ℕ) → Counted → List ℕ
outcome_text texts outcome = heading outcome ++ ending_lines texts outcome.0

-- the outcomes in order
abbrev pub outcome_texts : List (List ℕ) → List Counted → List ℕ
outcome_texts texts [] = []
outcome_texts texts (outcome ∷ more) = outcome_text texts outcome ++ outcome_texts texts more

-- how many schedules and outcomes there are
abbrev pub last_line : ℕ → ℕ → List ℕ
last_line schedules outcomes = decimal schedules ++ codes " schedules, " ++ decimal outcomes ++ codes " outcomes\n"

abbrev pub summary_lines : List (List ℕ) → List Scheduled → List ℕ
summary_lines texts schedules =
    outcome_texts texts (counted texts schedules) ++ last_line (length schedules) (length (counted texts schedules))
