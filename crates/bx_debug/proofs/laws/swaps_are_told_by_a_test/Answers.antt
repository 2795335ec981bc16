use Rattle.bx_debug.proofs.Exchanging.{may_so, so_may}
use Rattle.bx_debug.proofs.laws.swaps_are_told_by_a_test.Goals as goal

pub returns : goal.returns
returns c k s = (may_so k s, so_may k s)
