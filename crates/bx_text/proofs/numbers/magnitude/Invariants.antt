use Rattle.std.proofs.Common.{◌≡◌, drop}
use Rattle.std.specs.List.{fold}
use Rattle.bx_text.specs.Number.{with_digit, decimal}
use Rattle.bx_text.proofs.numbers.magnitude.Given as goal

abbrev pub invariant-loop-digit : goal.invariant-loop-digit
invariant-loop-digit l = fold with_digit l.sum (drop l.digit-index l.digits) ≡ decimal l.digits
