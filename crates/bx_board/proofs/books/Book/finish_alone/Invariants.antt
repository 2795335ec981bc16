use Rattle.std.proofs.Common.{◌≡◌, ◌-◌, length}
use Rattle.bx_board.specs.Alone.{IsIdle, done_in}
use Rattle.bx_board.proofs.books.Book.finish_alone.Given as goal

abbrev pub invariant-loop-self : goal.invariant-loop-self
invariant-loop-self l = record {
  idle : IsIdle l.self;
  job : l.self.job ≡ l.initial.self.job;
}

-- the chains that are left
abbrev pub decreases-loop-self : goal.decreases-loop-self
decreases-loop-self l = length l.self.state.slots - done_in l.self
