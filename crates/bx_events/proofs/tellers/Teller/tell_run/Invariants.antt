use Rattle.std.proofs.Common.{◌≡◌, ◌+◌, ◌-◌, ◌≤◌, replicate}
use Rattle.bx_events.specs.Answers.{telling, Stands}
use Rattle.bx_events.specs.Telling.{all_told}
use Rattle.bx_events.proofs.tellers.Teller.tell_run.Given as goal

-- the choices that are left complete what is told so far
abbrev pub invariant-loop-turn : goal.invariant-loop-turn
invariant-loop-turn l = record {
  told : all_told l.image (replicate (l.run.times - l._turn) l.run.choice) (telling l.self) ≡ all_told l.image (replicate l.run.times l.run.choice) (telling l.fn.self);
  keeps : Stands l.self;
  few : l.self.end.applied ≤ l.fn.self.end.applied + l._turn;
}
