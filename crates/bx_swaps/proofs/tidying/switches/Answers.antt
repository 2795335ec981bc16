use Rattle.bx_swaps.proofs.Words.{arith}
use Rattle.bx_swaps.proofs.Switching.{none_left}
use Rattle.bx_swaps.proofs.tidying.switches.Goals as goal

pub returns : goal.returns
returns c = omega (arith, none_left c.args.choices.now c.loop-at.at (omega arith), c.loop-at.invariant.so_far)
