use Rattle.std.proofs.Common.{◌≡◌, length}
use Rattle.bx_board.proofs.books.opening.endings_of.Given as goal

abbrev pub invariant-loop-number : goal.invariant-loop-number
invariant-loop-number l = length l.endings.items ≡ length l.chains.heads
