use Rattle.std.proofs.Common.{refl, arith}
use Rattle.bx_board.proofs.Holding.{seen_long}
use Rattle.bx_board.proofs.Keeping.{all_told}
use Rattle.bx_board.proofs.books.Book.is_done.Goals as goal

pub returns : goal.returns
returns c =
    let i = c.self.inside in
    rw (← c.self.view_is) (all_told _ i.ready.items i.holders i.leased i.done c.len.result c.self.invariant.0 (omega (arith, i.stands.ok.0, seen_long c.self.invariant.2 refl)))
