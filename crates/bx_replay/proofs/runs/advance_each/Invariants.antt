use Rattle.std.proofs.Common.{◌≡◌, ◌+◌, ◌≤◌, take}
use Rattle.bx_world.specs.Running.{ran}
use Rattle.bx_replay.proofs.runs.advance_each.Given as goal

-- so many are made
abbrev pub invariant-loop-choice : goal.invariant-loop-choice
invariant-loop-choice l = record {
  made : l.end ≡ ran l.image (take l.choice-index l.choices) l.fn.end;
  few : l.end.applied ≤ l.fn.end.applied + l.choice-index;
}
