use Rattle.std.proofs.Common.{Bool, subst, arith}
use Rattle.std.specs.Prelude.{MatchBool, ◌≡◌}
use Rattle.bx_board.specs.Alone.{GoesOn}
use Rattle.bx_board.specs.Kept.{IsAllDone}
use Rattle.bx_board.proofs.Idle.{done_in_low}
use Rattle.bx_board.proofs.books.Book.finish_alone.Goals as goal

pub loop-self-smaller : goal.loop-self-smaller
loop-self-smaller c =
    let old = c.loop-self.self in
    let new = c.go_on.new.self in
    let on = subst (λ (more : Bool). MatchBool more (GoesOn old new) ((new ≡ old) × IsAllDone old)) c.if-branch.true c.in_ok-go_on.ensures.ok in
    omega (arith, on.more, on.as_many, done_in_low new)
