-- The outcomes of schedules, each once, in the order of its first schedule, and how many schedules have it. Two outcomes are the
-- same where their lines are.
use Rattle.std.specs.Prelude.{◌≡◌, ℕ, ◌+◌, ◌<◌, Bool, if◌then◌else◌, List, [], ◌∷◌, length, slice_index_or, count_by}
use Rattle.std.specs.Str.{bytes_eq}
use Rattle.bx_board.specs.declared.reports.Scheduled.{Scheduled}
use Rattle.bx_summary.specs.Endings.{ending_lines}

-- an outcome: the first schedule that has it, and how many have it
abbrev pub Counted : Type 0
Counted = Scheduled × ℕ

-- the schedule ended with these lines
abbrev pub ends_so : List (List ℕ) → List ℕ → Scheduled → Bool
ends_so texts ending one = bytes_eq ending (ending_lines texts one)

-- a schedule more: it is counted at its outcome, which is a new one where none of them is
abbrev pub with_one : List (List ℕ) → Scheduled → List Counted → List Counted
with_one texts one [] = (one, 1) ∷ []
with_one texts one (outcome ∷ more) =
    if ends_so texts (ending_lines texts one) outcome.0 then (outcome.0, outcome.1 + 1) ∷ more
    else outcome ∷ with_one texts one more

abbrev pub with_all : List (List ℕ) → List Counted → List Scheduled → List Counted
with_all texts outcomes [] = outcomes
with_all texts outcomes (one ∷ more) = with_all texts (with_one texts one outcomes) more

abbrev pub counted : List (List ℕ) → List Scheduled → List Counted
counted texts schedules = with_all texts [] schedules

-- ---- what they are, said separately from how they are counted

-- how many schedules ended with these lines
abbrev pub how_many : List (List ℕ) → List ℕ → List Scheduled → ℕ
how_many texts ending schedules = count_by (ends_so texts ending) schedules

-- how many are counted at the outcome with these lines
abbrev pub counted_at : List (List ℕ) → List ℕ → List Counted → ℕ
counted_at texts ending [] = 0
counted_at texts ending (outcome ∷ more) =
    if ends_so texts ending outcome.0 then outcome.1 else counted_at texts ending more

-- how many are counted in all
abbrev pub total : List Counted → ℕ
total [] = 0
total (outcome ∷ more) = outcome.1 + total more

-- no outcome has these lines
abbrev pub HasNone : List (List ℕ) → List ℕ → List Counted → Type 0
HasNone texts ending [] = Unit {0}
HasNone texts ending (outcome ∷ more) = (ending ≡ ending_lines texts outcome.0 → ⊥) × HasNone texts ending more

-- no two outcomes have the same lines
abbrev pub AreDistinct : List (List ℕ) → List Counted → Type 0
AreDistinct texts [] = Unit {0}
AreDistinct texts (outcome ∷ more) = HasNone texts (ending_lines texts outcome.0) more × AreDistinct texts more
