use Rattle.bx_bifs.proofs.Words.{◌+◌, ◌≤◌, drop, listed, height}
use Rattle.bx_bifs.proofs.values.is_low_as_list.Given as goal

-- the list is low exactly where what is left of it is, below the cells so far
abbrev pub invariant-loop-above : goal.invariant-loop-above
invariant-loop-above l = record {
  cells : l.above ≤ 10000;
  left : height (listed l.terms) ≤ 10000 → l.above + height (listed (drop l.above l.terms)) ≤ 10000;
  whole : l.above + height (listed (drop l.above l.terms)) ≤ 10000 → height (listed l.terms) ≤ 10000;
}
