use Rattle.bx_bifs.proofs.Words.{bits_and, bits_or, guard_two}
use Rattle.bx_bifs.proofs.IntegerLaws.{worked_out, sums}
use Rattle.bx_bifs.proofs.laws.integers.bitwise_sums.Goals as goal

pub returns : goal.returns
unfolding guard_two
returns c texts a b both either one two = rw (← worked_out (bits_and a b) both one, ← worked_out (bits_or a b) either two) (sums a b)
