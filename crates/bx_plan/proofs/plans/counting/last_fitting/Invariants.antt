use Rattle.bx_plan.proofs.Words.{◌-◌, ◌<◌, ◌≤◌, length, take, node_count, choices_of, lines_view}
use Rattle.bx_plan.proofs.plans.counting.last_fitting.Given as goal

abbrev pub invariant-loop-high : goal.invariant-loop-high
invariant-loop-high l = record {
  order : l.low < l.high;
  within : l.high ≤ length l.lines;
  fits : node_count (take l.low (choices_of (lines_view l.lines))) ≤ 1000000;
  full : 1000000 < node_count (take l.high (choices_of (lines_view l.lines)));
}

abbrev pub decreases-loop-high : goal.decreases-loop-high
decreases-loop-high l = l.high - l.low
