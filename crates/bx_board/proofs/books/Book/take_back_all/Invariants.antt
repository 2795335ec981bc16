use Rattle.std.proofs.Common.{◌≡◌}
use Rattle.bx_board.specs.Alone.{held_in}
use Rattle.bx_board.proofs.books.Book.take_back_all.Given as goal

abbrev pub invariant-loop : goal.invariant-loop
invariant-loop l = record {
  job : l.self.job ≡ l.initial.self.job;
  stopped : l.self.state.stopped ≡ l.initial.self.state.stopped;
}

abbrev pub decreases-loop : goal.decreases-loop
decreases-loop l = held_in l.self
