use Rattle.bx_plan.proofs.Words.{◌-◌, ◌≤◌, length, reverse, AllCuts, choices_of, lines_view}
use Rattle.bx_plan.proofs.Counting.{before}
use Rattle.bx_plan.proofs.Cutting.{AreMarks}
use Rattle.bx_plan.proofs.chains.cuts.cuts_of.Given as goal

-- the marks are for the one before a place, and the cuts of those from there on are there
abbrev pub invariant-loop-place : goal.invariant-loop-place
invariant-loop-place l = record {
  within : l.place ≤ length l.rows;
  marks : AreMarks (choices_of (lines_view l.lines)) l.rows (before (choices_of (lines_view l.lines)) l.rows l.place) l.place l.marks.items;
  cuts : AllCuts (choices_of (lines_view l.lines)) l.rows (length l.rows - l.place) l.place (reverse l.cuts.items);
}

abbrev pub decreases-loop-place : goal.decreases-loop-place
decreases-loop-place l = l.place
