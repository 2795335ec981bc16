use Rattle.std.proofs.Common.{◌+◌, ◌≤◌, length}
use Rattle.bx_replay.proofs.Stretches.{Front}
use Rattle.bx_replay.proofs.runs.advance_all.Given as goal

-- those before what is left are made
abbrev pub invariant-loop-run : goal.invariant-loop-run
invariant-loop-run l = record {
  made : Front l.image l.fn.part l.left l.fn.end l.end;
  few : l.end.applied + length l.left ≤ l.fn.end.applied + length l.fn.part;
}

abbrev pub decreases-loop-run : goal.decreases-loop-run
decreases-loop-run l = length l.left
