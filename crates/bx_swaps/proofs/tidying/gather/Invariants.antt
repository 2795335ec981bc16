use Rattle.bx_swaps.proofs.Words.{◌≡◌, ◌-◌, length, gathered}
use Rattle.bx_swaps.proofs.tidying.gather.Given as goal

-- what is left makes of the row what all make of the first
abbrev pub invariant-loop-at : goal.invariant-loop-at
invariant-loop-at l = record {
  is : gathered (l.count - l.at) l.at l.row ≡ gathered (l.count - 1) 1 l.fn.row;
  long : length l.row.choices ≡ length l.fn.row.choices;
}
