use Rattle.std.proofs.Common.{◌≡◌, ◌+◌, ◌<◌, ◌^◌, length}
use Rattle.bx_world.specs.Running.{ran}
use Rattle.bx_board.specs.Working.{run_up_to}
use Rattle.bx_board.proofs.walks.Course.run.Given as goal

-- what is left leads where the span leads
abbrev pub invariant-loop-run : goal.invariant-loop-run
invariant-loop-run l = record {
  leads : ran l.self.image.now l.left l.end ≡ run_up_to l.self.image.now l.self.start l.self.plan.now l.fn.span.line l.fn.span.past;
  few : l.end.applied + length l.left < 2 ^ 63;
}

abbrev pub decreases-loop-run : goal.decreases-loop-run
decreases-loop-run l = length l.left
