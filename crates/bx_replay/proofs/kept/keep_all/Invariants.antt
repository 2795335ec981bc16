use Rattle.std.proofs.Common.{◌≡◌, ◌+◌, ◌-◌, ◌≤◌, length}
use Rattle.bx_replay.specs.Courses.{reached}
use Rattle.bx_replay.specs.Keeping.{AreKept}
use Rattle.bx_replay.proofs.Prefixes.{course}
use Rattle.bx_replay.proofs.kept.keep_all.Given as goal

-- each choice so far was applied
abbrev pub invariant-loop-at : goal.invariant-loop-at
invariant-loop-at l = record {
  within : l.at ≤ length l.choices;
  here : l.end ≡ reached l.at (course l.image l.start.end l.choices);
  count : l.end.applied ≡ l.start.end.applied + l.at;
  kept : AreKept (course l.image l.start.end l.choices) l.kept.items;
}

-- the choices that are left
abbrev pub decreases-loop-at : goal.decreases-loop-at
decreases-loop-at l = length l.choices - l.at
