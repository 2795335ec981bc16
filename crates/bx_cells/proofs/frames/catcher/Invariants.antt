use Rattle.std.proofs.Common.{◌≡◌, drop, reverse}
use Rattle.bx_cells.specs.Stack.{unwound}
use Rattle.bx_cells.specs.StackRow.{frames_of}
use Rattle.bx_cells.proofs.StackRows.{Behind}
use Rattle.bx_cells.proofs.frames.catcher.Given as goal

abbrev pub invariant-loop-above : goal.invariant-loop-above
invariant-loop-above l = record {
  behind : Behind (reverse l.heads) l.cells l.above l.end;
  uncaught : unwound (frames_of (reverse l.heads) l.cells) ≡ unwound (drop l.above (frames_of (reverse l.heads) l.cells));
}
