-- The bitwise operators bit by bit.
use Rattle.bx_bifs.proofs.Words.{◌≡◌, ℕ, ◌+◌, ◌-◌, ◌%◌, min, max, ℤ, pos, negsuc, refl, arith, bit_and, bit_xor, FitsSigned, bit_at, w64, xor_add_and, ints}
use Rattle.bx_bifs.proofs.Words.{and_comm, IsInRange, bit, bits_and, bits_or, bits_xor, bits_not}
use Rattle.std.proofs.lemmas.Nat.Bits.{bit_at_and, bit_at_or, bit_at_xor, bit_at-lt, same_from_bits}

-- the bits of m that n has not
without : (m n place : ℕ) → bit_at (m - bit_and m n) place ≡ min (bit_at m place) (1 - bit_at n place)
without m n place =
    let twice = same_from_bits (bit_and m (bit_and m n)) (bit_and m n) (λ i. omega (arith, bit_at_and m (bit_and m n) i, bit_at_and m n i)) in
    let left : m - bit_and m n ≡ bit_xor m (bit_and m n) = omega (arith, xor_add_and m (bit_and m n)) in
    rw left (omega (arith, bit_at_xor m (bit_and m n) place, bit_at_and m n place, bit_at-lt m place, bit_at-lt n place))

without_first : (m n place : ℕ) → bit_at (n - bit_and m n) place ≡ min (bit_at n place) (1 - bit_at m place)
without_first m n place = rw (and_comm m n) (without n m place)

pub and_each : (a b : ℤ) (place : ℕ) → bit (bits_and a b) place ≡ min (bit a place) (bit b place)
and_each (pos m) (pos n) place = bit_at_and m n place
and_each (pos m) (negsuc n) place = without m n place
and_each (negsuc m) (pos n) place = omega (arith, without_first m n place)
and_each (negsuc m) (negsuc n) place = omega (arith, bit_at_or m n place, bit_at-lt m place, bit_at-lt n place)

pub or_each : (a b : ℤ) (place : ℕ) → bit (bits_or a b) place ≡ max (bit a place) (bit b place)
or_each (pos m) (pos n) place = bit_at_or m n place
or_each (pos m) (negsuc n) place = omega (arith, without_first m n place, bit_at-lt m place, bit_at-lt n place)
or_each (negsuc m) (pos n) place = omega (arith, without m n place, bit_at-lt m place, bit_at-lt n place)
or_each (negsuc m) (negsuc n) place = omega (arith, bit_at_and m n place, bit_at-lt m place, bit_at-lt n place)

pub xor_each : (a b : ℤ) (place : ℕ) → bit (bits_xor a b) place ≡ (bit a place + bit b place) % 2
xor_each (pos m) (pos n) place = bit_at_xor m n place
xor_each (pos m) (negsuc n) place = omega (arith, bit_at_xor m n place, bit_at-lt m place, bit_at-lt n place)
xor_each (negsuc m) (pos n) place = omega (arith, bit_at_xor m n place, bit_at-lt m place, bit_at-lt n place)
xor_each (negsuc m) (negsuc n) place = omega (arith, bit_at_xor m n place, bit_at-lt m place, bit_at-lt n place)

pub not_each : (a : ℤ) (place : ℕ) → bit (bits_not a) place ≡ 1 - bit a place
not_each (pos m) place = refl
not_each (negsuc m) place = omega (arith, bit_at-lt m place)

pub in_64_bits : (z : ℤ) → IsInRange z → FitsSigned w64 z
in_64_bits (pos n) h = let above = h.1 in record { sfits = omega (arith, ints) }
in_64_bits (negsuc n) h = let below = h.0 in record { sfits = omega (arith, ints) }
