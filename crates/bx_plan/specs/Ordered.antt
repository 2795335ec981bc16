-- Rows in order: each schedule stands behind the one before it.
use Rattle.std.specs.Prelude.{◌≡◌, ℕ, ◌+◌, ◌<◌, ◌≤◌, ◌==◌, false, List, [], ◌∷◌, Option, None, Some, count_by, length, slice_index_or}
use Rattle.std.specs.Ordering.{is_gt}
use Rattle.bx_world.specs.declared.choices.Choice.{Choice}
use Rattle.bx_plan.specs.declared.plans.Row.{Row}
use Rattle.bx_plan.specs.Gathered.{choices_cmp, common}

-- the schedule of a row
abbrev pub at_row : List (List Choice) → Row → List Choice
at_row schedules row = slice_index_or schedules row.line []

-- the first of them begins with so many choices as one before it
abbrev pub headed : ℕ → List Row → List Row
headed common [] = []
headed common (row ∷ rows) = record { line = row.line; common = common } ∷ rows

-- its schedule stands behind another one, or is that, and begins with so many choices as that one
pub record Stands (schedules : List (List Choice)) (last : List Choice) (row : Row) : Type 0 where
  pub within : row.line < length schedules
  pub behind : is_gt (choices_cmp last (at_row schedules row)) ≡ false
  pub common : row.common ≡ common last (at_row schedules row)

-- each behind the one before it, and the first behind that one
abbrev pub AreFrom : List (List Choice) → List Choice → List Row → Type 0
AreFrom schedules last [] = Unit {0}
AreFrom schedules last (row ∷ rows) = Stands schedules last row × AreFrom schedules (at_row schedules row) rows

-- how many of them are of that line
abbrev pub rows_at : ℕ → List Row → ℕ
rows_at line rows = count_by (λ row. row.line == line) rows

-- the first one is taken, if there is one
abbrev pub TakesFirst : List Row → List Row → Option Row → Type 0
TakesFirst old new None = (old ≡ []) × (new ≡ [])
TakesFirst old new (Some row) = old ≡ row ∷ new

-- both go on from one schedule
abbrev pub GoOn : List (List Choice) → List Row → List Row → Type 0
GoOn schedules xs ys = (last : List Choice) × AreFrom schedules last xs × AreFrom schedules last ys

-- a row of both was taken, and both go on from it
pub record IsTaken (schedules : List (List Choice)) (xs ys xs_left ys_left : List Row) (row : Row) : Type 0 where
  pub fewer : length xs_left + length ys_left + 1 ≡ length xs + length ys
  pub lines : (line : ℕ) → rows_at line xs_left + rows_at line ys_left + rows_at line (row ∷ []) ≡ rows_at line xs + rows_at line ys
  pub order : (last : List Choice) → AreFrom schedules last xs → AreFrom schedules last ys
      → Stands schedules last row × AreFrom schedules (at_row schedules row) xs_left × AreFrom schedules (at_row schedules row) ys_left

abbrev pub Takes : List (List Choice) → List Row → List Row → List Row → List Row → Option Row → Type 0
Takes schedules xs ys xs_left ys_left None = (xs ≡ []) × (ys ≡ [])
Takes schedules xs ys xs_left ys_left (Some row) = IsTaken schedules xs ys xs_left ys_left row

-- the rows of both, in order
pub record AreMerged (schedules : List (List Choice)) (xs ys rows : List Row) : Type 0 where
  pub from : AreFrom schedules [] rows
  pub lines : (line : ℕ) → rows_at line rows ≡ rows_at line xs + rows_at line ys

-- the rows of the lines from one on up to the one before another, in order
pub record AreInOrder (schedules : List (List Choice)) (first past : ℕ) (rows : List Row) : Type 0 where
  pub from : AreFrom schedules [] rows
  pub all : (line : ℕ) → first ≤ line → line < past → 0 < rows_at line rows
