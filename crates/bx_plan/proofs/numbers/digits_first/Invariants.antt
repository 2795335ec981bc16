use Rattle.bx_plan.proofs.Words.{◌≡◌, ◌≤◌, length, digits_first}
use Rattle.bx_plan.proofs.numbers.digits_first.Given as goal

-- the digits that are left complete the number so far
abbrev pub invariant-loop-left : goal.invariant-loop-left
invariant-loop-left l = record {
  rest : digits_first l.most l.number l.left ≡ digits_first l.most l.first l.text;
  small : l.number ≤ l.most;
}

abbrev pub decreases-loop-left : goal.decreases-loop-left
decreases-loop-left l = length l.left
