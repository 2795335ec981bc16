use Rattle.std.proofs.Common.{refl}
use Rattle.bx_board.proofs.Keeping.{view_stop}
use Rattle.bx_board.proofs.books.Book.stop.Goals as goal

pub invariant_of-self : goal.invariant_of-self
invariant_of-self c =
    let both = view_stop c.self.invariant.0 c.self.invariant.2 refl c.if-self.false in
    (both.0, c.self.invariant.1, both.1, c.self.invariant.3)
