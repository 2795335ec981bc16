-- Where things stand in a drawing: a column for each process, a row for each event, and a row behind these for each signal that waits.
use Rattle.std.specs.Prelude.{ℕ, ◌+◌, ◌*◌, Option, Some, None, if◌then◌else◌, nat_lt}
use Rattle.bx_svg.specs.declared.shapes.Point.{Point}

-- no drawing has more columns or rows
abbrev pub bounded : ℕ → ℕ
bounded n = if nat_lt 16777215 n then 16777215 else n

-- so far to the right of where a column begins, and so far below where a row begins
abbrev pub spot : ℕ → ℕ → ℕ → ℕ → Point
spot column row right down = record { x = 190 * bounded column + right; y = 24 * bounded row + down }

-- on the line of a process, in a row
abbrev pub on : ℕ → ℕ → Point
on p row = spot p row 170 64

-- where a text begins that stands beside the line
abbrev pub beside : ℕ → ℕ → Point
beside p row = spot p row 188 68

-- an arrow ends a little before the line that it comes to, or behind it where it comes from the right
abbrev pub arrow_end : ℕ → ℕ → ℕ → Point
arrow_end from to row = if nat_lt from to then spot to row 168 64 else spot to row 172 64

-- a process's line begins in the row in which it was spawned, and that of the first one above all rows
abbrev pub begins : Option ℕ → ℕ → ℕ → Point
begins None p right = spot p 0 right 26
begins (Some row) p right = spot p row right 50

abbrev pub named_at : Option ℕ → ℕ → Point
named_at None p = spot p 0 170 40
named_at (Some row) p = spot p row 170 64

-- the row of the n-th signal that waits, counted from 0, behind so many rows
abbrev pub row_behind : ℕ → ℕ → ℕ
row_behind rows n = bounded rows + bounded n + 2
