use Rattle.std.proofs.Common.{◌≡◌}
use Rattle.bx_replay.specs.Courses.{reached}
use Rattle.bx_replay.specs.Reaching.{IsFreeFrom}
use Rattle.bx_replay.proofs.trails.rows.Row.free_from.Given as goal

-- of those so far
abbrev pub invariant-loop-at : goal.invariant-loop-at
invariant-loop-at l = record {
  here : l.end ≡ reached l.at l.self;
  free : IsFreeFrom l.choice l.first l.at l.self l.rest;
}
