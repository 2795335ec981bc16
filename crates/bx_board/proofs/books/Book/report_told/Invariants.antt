use Rattle.std.proofs.Common.{◌≡◌, map, take}
use Rattle.bx_plan.specs.Planned.{schedules}
use Rattle.bx_board.specs.Reported.{told_alone}
use Rattle.bx_board.proofs.books.Book.report_told.Given as goal

-- the schedules so far are told
abbrev pub invariant-loop-number : goal.invariant-loop-number
invariant-loop-number l = record {
  same : l.self ≡ l.initial.self;
  report : l.report ≡ map (told_alone l.initial.self.job.image l.initial.self.job.start) (take l.number (schedules l.initial.self.job.plan));
}
