use Rattle.std.proofs.Common.{refl, subst}
use Rattle.bx_board.specs.Kept.{Kept}
use Rattle.bx_board.specs.Machine.{Holds}
use Rattle.bx_board.proofs.Idle.{took}
use Rattle.bx_board.proofs.Keeping.{unheld_by}
use Rattle.bx_board.proofs.books.Book.take_back.Goals as goal

pub returns-in_default : goal.returns-in_default
returns-in_default c =
    let i = c.self.inside in
    rw (← c.self.view_is) (refl, unheld_by _ i.ready.items i.holders i.leased i.done c.self.invariant.0 c.in_default.ensures.variant.1)

pub returns : goal.returns
returns c =
    let held = subst (λ (b : Kept). Holds b.state c.in-Some.worker.now) c.self.view_is (c.in-Some.field-0-1.now, (c.self.invariant.0.held c.in-Some.worker.now c.in-Some.field-0-1.now).0 c.in-Some.ensures.value) in
    took c.args.self.now c.give_back.new.self c.in-Some.worker.now c.give_back.result held c.give_back.ensures
