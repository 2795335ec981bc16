-- How much channels hold, queue by queue.
use Rattle.std.proofs.Common.{◌≡◌, ℕ, ◌+◌, ◌<◌, ◌≤◌, min, List, [], ◌∷◌, length, get_or, take, sum_by, ap, arith}
use Rattle.std.proofs.lemmas.List.Sums.{sum_by-cons, sum_by-append, sum_by_more}
use Rattle.bx_signals.specs.Rows.{Row, AllRising, rows_map, line_cells, lines_cells}
use Rattle.bx_signals.specs.Weights.{channel_cells}
use Rattle.bx_signals.proofs.Listed.{Entry, entry_if, row_entries, rows_entries, rows_listed}

-- one part more
pub heavier : {A : Type 0} (weigh : A → ℕ) (xs : List A) (i : ℕ) (x : A) (total part new : ℕ) → i < length xs → x ≡ get_or xs i x
    → min (sum_by weigh (take i xs)) 18446744073709551615 ≤ total → min (weigh x) 18446744073709551615 ≤ part → new ≡ min (total + part) 18446744073709551615
    → min (sum_by weigh (take (i + 1) xs)) 18446744073709551615 ≤ new
heavier weigh xs i x total part new here is so_far own added = omega (arith, sum_by_more weigh xs i x here, ap weigh is, so_far, own, added)

module _ {S : Type 0} where
  abbrev entry_cells : Entry S → ℕ
  entry_cells entry = 2 + length entry.1.1

  of_line : (p q : ℕ) (ss : List S) → sum_by entry_cells (entry_if p q ss) ≤ 1 + length ss
  of_line p q [] = omega arith
  of_line p q (s ∷ ss) = omega (arith, sum_by-cons entry_cells ((p, q), (s, ss)) [])

  of_row : (p : ℕ) (row : Row S) → sum_by entry_cells (row_entries p row) ≤ lines_cells row
  of_row p [] = omega arith
  of_row p (line ∷ row) = omega (arith, of_line p line.0 line.1, of_row p row, sum_by-append entry_cells (entry_if p line.0 line.1) (row_entries p row), sum_by-cons line_cells line row)

  of_rows : (p : ℕ) (rows : List (Row S)) → sum_by entry_cells (rows_entries p rows) ≤ sum_by lines_cells rows
  of_rows p [] = omega arith
  of_rows p (row ∷ rows) = omega (arith, of_row p row, of_rows (p + 1) rows, sum_by-append entry_cells (row_entries p row) (rows_entries (p + 1) rows), sum_by-cons lines_cells row rows)

  -- the queues hold what the channels do, at the least
  pub held : (rows : List (Row S)) → AllRising rows → channel_cells (rows_map 0 rows) ≤ sum_by lines_cells rows
  held rows rising = rw (rows_listed 0 rows rising) (of_rows 0 rows)
