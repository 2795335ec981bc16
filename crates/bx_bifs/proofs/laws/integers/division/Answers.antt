use Rattle.bx_bifs.proofs.Words.{pos, int_div, int_rem, int_eq, quot-rem, guard_two}
use Rattle.bx_bifs.proofs.IntegerLaws.{unless_zero}
use Rattle.bx_bifs.proofs.laws.integers.division.Goals as goal

pub returns-clause-whole : goal.returns-clause-whole
unfolding guard_two
returns-clause-whole c texts a b q r divided left =
    let zero_divisor = int_eq b (pos 0) in rw (← unless_zero zero_divisor (int_div a b) q divided, ← unless_zero zero_divisor (int_rem a b) r left) (quot-rem a b)
