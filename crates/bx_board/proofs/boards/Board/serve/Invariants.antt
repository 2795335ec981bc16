use Rattle.std.proofs.Common.{◌≡◌, IfSome}
use Rattle.bx_board.proofs.boards.Board.serve.Given as goal

-- the worker's copy of the code, where it has one, is the campaign's code
abbrev pub invariant-loop : goal.invariant-loop
invariant-loop g l =
    (goal.iterator-loop g).can_next l.iterator' × (goal.iterator-loop g).is_finite l.iterator' × IfSome l.own (λ code. code ≡ l.shared)
