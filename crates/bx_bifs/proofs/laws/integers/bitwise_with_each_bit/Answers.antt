use Rattle.bx_bifs.proofs.Words.{sym, bits_and, bits_or, bits_xor, bits_not, guard_one, guard_two}
use Rattle.bx_bifs.proofs.Integers.{given}
use Rattle.bx_bifs.proofs.TwosComplement.{and_fits, or_fits, xor_fits, not_fits}
use Rattle.bx_bifs.proofs.BitLaws.{and_each, or_each, xor_each, not_each, in_64_bits}
use Rattle.bx_bifs.proofs.laws.integers.bitwise_with_each_bit.Goals as goal

pub returns-clause-both : goal.returns-clause-both
unfolding guard_two
returns-clause-both c texts a b p q = (bits_and a b, sym (given (bits_and a b) (and_fits a b (in_64_bits a p) (in_64_bits b q))), and_each a b)

pub returns-clause-either : goal.returns-clause-either
unfolding guard_two
returns-clause-either c texts a b p q = (bits_or a b, sym (given (bits_or a b) (or_fits a b (in_64_bits a p) (in_64_bits b q))), or_each a b)

pub returns-clause-differing : goal.returns-clause-differing
unfolding guard_two
returns-clause-differing c texts a b p q = (bits_xor a b, sym (given (bits_xor a b) (xor_fits a b (in_64_bits a p) (in_64_bits b q))), xor_each a b)

pub returns-clause-turned : goal.returns-clause-turned
unfolding guard_one
returns-clause-turned c a p = (bits_not a, sym (given (bits_not a) (not_fits a (in_64_bits a p))), not_each a)
