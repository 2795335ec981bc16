use Rattle.std.proofs.Common.{◌<◌, ◌≤◌, ◌-◌, length}
use Rattle.std.specs.Prelude.{slice_index_or}
use Rattle.bx_replay.specs.declared.kept.Kept.{Kept}
use Rattle.bx_replay.proofs.kept.within.Given as goal

-- those below `low` lie within, and that at `high` does not
abbrev pub invariant-loop-low : goal.invariant-loop-low
invariant-loop-low l = record {
  ordered : l.low ≤ l.high;
  bound : l.high ≤ length l.kept;
  last : (d : Kept) → 0 < l.low → (slice_index_or l.kept (l.low - 1) d).end.applied ≤ l.applied;
  next : (d : Kept) → l.high < length l.kept → l.applied < (slice_index_or l.kept l.high d).end.applied;
}

abbrev pub decreases-loop-low : goal.decreases-loop-low
decreases-loop-low l = l.high - l.low
