use Rattle.std.proofs.Common.{◌≡◌, ◌≤◌}
use Rattle.bx_replay.specs.Moving.{brought}
use Rattle.bx_replay.proofs.trails.rows.carry.Given as goal

-- it stands at `at`
abbrev pub invariant-loop-at : goal.invariant-loop-at
invariant-loop-at l = record {
  low : l.to ≤ l.at;
  high : l.at ≤ l.from;
  choices : l.choices ≡ brought l.from l.at l.fn.choices;
}

abbrev pub decreases-loop-at : goal.decreases-loop-at
decreases-loop-at l = l.at
