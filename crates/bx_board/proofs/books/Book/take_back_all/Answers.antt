use Rattle.std.proofs.Common.{sym, subst}
use Rattle.bx_board.specs.Alone.{IsUnheld}
use Rattle.bx_board.proofs.books.Book.take_back_all.Goals as goal

pub returns-clause-unheld : goal.returns-clause-unheld
returns-clause-unheld c = subst IsUnheld (sym c.loop-test.ensures.0) c.loop-test.ensures.1
