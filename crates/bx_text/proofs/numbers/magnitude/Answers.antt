use Rattle.std.proofs.Common.{arith}
use Rattle.bx_text.proofs.Decimals.{stays_large}
use Rattle.bx_text.specs.Number.{decimal}
use Rattle.bx_text.proofs.numbers.magnitude.Goals as goal

pub returns-in-None : goal.returns-in-None
returns-in-None c = stays_large c.args.digits.now c.loop-digit.digit-index c.loop-digit.sum (decimal c.args.digits.now) (omega arith) c.loop-digit.invariant c.in-None.ensures
