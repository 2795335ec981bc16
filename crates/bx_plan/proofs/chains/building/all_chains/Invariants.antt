use Rattle.bx_plan.proofs.Words.{◌-◌, length, reverse, AllCuts, common_before, Grown, choices_of, lines_view}
use Rattle.bx_plan.proofs.chains.building.all_chains.Given as goal

-- the chains of the schedules before a place, and the cuts of those from there on
abbrev pub invariant-loop-place : goal.invariant-loop-place
invariant-loop-place l = record {
  grown : Grown (lines_view l.lines) l.rows l.place (common_before (choices_of (lines_view l.lines)) l.rows l.place) l.all;
  cuts : AllCuts (choices_of (lines_view l.lines)) l.rows (length l.rows - l.place) l.place (reverse l.cuts.items);
}
