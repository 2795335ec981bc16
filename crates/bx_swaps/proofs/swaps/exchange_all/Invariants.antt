use Rattle.bx_swaps.proofs.Words.{ℕ, drop, Option, Course, ExchangesAll}
use Rattle.bx_swaps.proofs.swaps.exchange_all.Given as goal

-- what is left to do tells of all
abbrev pub invariant-loop-position : goal.invariant-loop-position
invariant-loop-position l = (new : Course) (answer : Option ℕ) → ExchangesAll (drop l.position-index l.positions) l.trail new answer → ExchangesAll l.positions l.fn.trail new answer
