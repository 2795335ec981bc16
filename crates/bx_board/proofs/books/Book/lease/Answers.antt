use Rattle.std.proofs.Common.{ℕ, Option, subst}
use Rattle.bx_board.specs.Jobs.{Work}
use Rattle.bx_board.specs.Kept.{Takes}
use Rattle.bx_board.proofs.books.Book.lease.Goals as goal

pub returns-in_default-clause-ok : goal.returns-in_default-clause-ok
returns-in_default-clause-ok c = subst (λ (o : Option (ℕ × Work)). Takes c.args.self.now c.args.worker o c.take.new.self) c.in_default.is c.in_ok-taken.ensures.ok

pub returns-clause-ok : goal.returns-clause-ok
returns-clause-ok c =
    let got = subst (λ (o : Option (ℕ × Work)). Takes c.args.self.now c.args.worker o c.take.new.self) c.in-Some.is c.in_ok-taken.ensures.ok in
    (_, got.0, got.2)
