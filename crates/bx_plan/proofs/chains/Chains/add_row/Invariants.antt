use Rattle.bx_plan.proofs.Words.{◌≡◌, ◌+◌, ◌-◌, ◌≤◌, ℕ, List, ◌++◌, length, reverse, take, IsCut, AllCuts, AreCuts, placed, row_at, Grown, choices_of, lines_view}
use Rattle.bx_plan.proofs.chains.Chains.add_row.Given as goal

-- the chains lead up to a depth, and the cuts behind it come last
abbrev pub invariant-loop-first : goal.invariant-loop-first
invariant-loop-first l = record {
  grown : Grown (lines_view l.lines) l.rows l.place l.first l.self;
  low : (row_at l.rows l.place).common ≤ l.first;
  begin : IsCut (choices_of (lines_view l.lines)) (take l.first (placed (choices_of (lines_view l.lines)) l.rows l.place));
  steps : List ℕ;
  rest : List ℕ;
  are : AreCuts (choices_of (lines_view l.lines)) l.rows l.place l.first steps;
  others : AllCuts (choices_of (lines_view l.lines)) l.rows (length l.rows - l.place - 1) (l.place + 1) rest;
  order : reverse l.cuts.items ≡ steps ++ rest;
}

abbrev pub decreases-loop-first : goal.decreases-loop-first
decreases-loop-first l = l.length - l.first
