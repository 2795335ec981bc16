use Rattle.std.proofs.Common.{◌≡◌, map, take}
use Rattle.bx_plan.specs.Planned.{schedules}
use Rattle.bx_board.specs.Reported.{told_alone}
use Rattle.bx_board.specs.Walks.{AreTold, job_of}
use Rattle.bx_board.proofs.walks.Course.report.Given as goal

-- the schedules so far are told
abbrev pub invariant-loop-number : goal.invariant-loop-number
invariant-loop-number l = record {
  told : AreTold (job_of l.self) l.told.items;
  report : l.report ≡ map (told_alone l.self.image.now l.self.start) (take l.number (schedules l.self.plan.now));
}
