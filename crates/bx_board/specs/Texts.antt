-- The text of a report. Lines are ended by a line feed.
use Rattle.std.specs.Prelude.{ℕ, List, [], ◌∷◌, ◌++◌, codes}
use Rattle.bx_world.specs.Texts.{outcome_lines}
use Rattle.bx_board.specs.declared.reports.Scheduled.{Scheduled}

abbrev pub schedule_lines : List (List ℕ) → Scheduled → List ℕ
schedule_lines texts one = codes "schedule " ++ one.name ++ codes "\n" ++ outcome_lines texts one.applied one.refused one.outcome

-- the schedules in order
abbrev pub report_lines : List (List ℕ) → List Scheduled → List ℕ
report_lines texts [] = []
report_lines texts (one ∷ more) = schedule_lines texts one ++ report_lines texts more
