use Rattle.bx_bifs.proofs.Words.{guard_two, over_power}
use Rattle.bx_bifs.proofs.IntegerLaws.{worked_out, between}
use Rattle.bx_bifs.proofs.laws.integers.right_shifts.Goals as goal

pub returns : goal.returns
unfolding guard_two
returns c texts a q n e = rw (worked_out (over_power a n) q e) at (between a n)
