use Rattle.bx_plan.proofs.Words.{◌≡◌, ◌≤◌, drop, digits_from}
use Rattle.bx_plan.proofs.numbers.number_of.Given as goal

-- the digits that are left complete the number so far
abbrev pub invariant-loop-byte : goal.invariant-loop-byte
invariant-loop-byte l = record {
  rest : digits_from l.most l.number (drop l.byte-index l.text) ≡ digits_from l.most 0 l.text;
  small : l.number ≤ l.most;
}
