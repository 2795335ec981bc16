use Rattle.std.proofs.Common.{inl}
use Rattle.bx_board.proofs.Steps.{true_is}
use Rattle.bx_board.proofs.books.Book.finish.Goals as goal

pub returns-clause-err : goal.returns-clause-err
returns-clause-err c = (c.report.ensures.same, inl (c.in-Err.ensures.err.0, c.is_done.ensures.0 (true_is _ c.if-not-is_done.false), c.in-Err.ensures.err.1))
