use Rattle.std.proofs.Common.{◌≡◌, ◌+◌, ◌<◌, ◌^◌, length}
use Rattle.bx_world.specs.Running.{ran}
use Rattle.bx_board.specs.Jobs.{end_of}
use Rattle.bx_board.proofs.working.Lease.run.Given as goal

-- what is left leads where the chain leads
abbrev pub invariant-loop-run : goal.invariant-loop-run
invariant-loop-run l = record {
  leads : ran l.code l.left l.end ≡ end_of l.self;
  few : l.end.applied + length l.left < 2 ^ 63;
}

abbrev pub decreases-loop-run : goal.decreases-loop-run
decreases-loop-run l = length l.left
