use Rattle.bx_plan.proofs.Words.{◌≡◌, ◌+◌, ◌≤◌, ℕ, [], length, vec_capacity, rows_at, AreFrom, choices_of, lines_view}
use Rattle.bx_plan.proofs.Sorting.{last_of}
use Rattle.bx_plan.proofs.plans.ordering.merge.Given as goal

abbrev pub invariant-loop-row : goal.invariant-loop-row
invariant-loop-row l = record {
  from : AreFrom (choices_of (lines_view l.lines)) [] l.rows.items;
  one : AreFrom (choices_of (lines_view l.lines)) (last_of (choices_of (lines_view l.lines)) [] l.rows.items) l.left;
  other : AreFrom (choices_of (lines_view l.lines)) (last_of (choices_of (lines_view l.lines)) [] l.rows.items) l.right;
  lines : (line : ℕ) → rows_at line l.rows.items + rows_at line l.left + rows_at line l.right ≡ rows_at line l.fn.one + rows_at line l.fn.other;
  room : length l.rows.items + length l.left + length l.right ≤ vec_capacity l.rows;
}

abbrev pub decreases-loop-row : goal.decreases-loop-row
decreases-loop-row l = length l.left + length l.right
