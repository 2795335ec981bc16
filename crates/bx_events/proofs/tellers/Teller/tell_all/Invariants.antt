use Rattle.std.proofs.Common.{◌≡◌, ◌+◌, ◌≤◌, length}
use Rattle.bx_events.specs.Answers.{telling, Stands}
use Rattle.bx_events.specs.Telling.{all_told}
use Rattle.bx_events.proofs.tellers.Teller.tell_all.Given as goal

-- the choices that are left complete what is told so far
abbrev pub invariant-loop-run : goal.invariant-loop-run
invariant-loop-run l = record {
  told : all_told l.image l.left (telling l.self) ≡ all_told l.image l.fn.part (telling l.fn.self);
  keeps : Stands l.self;
  few : l.self.end.applied + length l.left ≤ l.fn.self.end.applied + length l.fn.part;
}

abbrev pub decreases-loop-run : goal.decreases-loop-run
decreases-loop-run l = length l.left
