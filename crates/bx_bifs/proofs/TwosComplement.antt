-- Bitwise operators on 64 bits are those on integers of any size.
use Rattle.bx_bifs.proofs.Words.{◌≡◌, ℕ, suc, ◌+◌, ◌-◌, ◌<◌, ◌^◌, ℤ, pos, negsuc, Some, refl, ap, ◌∙◌, arith, bit_and, bit_or, bit_xor, FitsSigned, w64}
use Rattle.bx_bifs.proofs.Words.{cast_signed, cast_unsigned, int_bit_and, int_bit_or, int_bit_xor, int_bit_not, or_add_and, xor_add_and, to_z-of_z, and-not}
use Rattle.bx_bifs.proofs.Words.{and_comm, and_le_l, and_le_r, or_lt, xor_lt, integer, computed, bits_and, bits_or, bits_xor, bits_not}
use Rattle.bx_bifs.proofs.Integers.{given}

-- the bits of `negsuc n` in 64 bits
abbrev turned : ℕ → ℕ
turned n = 2 ^ 64 - suc n

and_turned : (m n : ℕ) → m < 2 ^ 64 → n < 2 ^ 64 → bit_and (turned m) n + bit_and m n ≡ n
and_turned m n hm hn = let same : turned m ≡ 2 ^ 64 - 1 - m = omega arith in rw same (and-not 64 m n hm hn)

and_both_turned : (m n : ℕ) → m < 2 ^ 64 → n < 2 ^ 64 → bit_and (turned m) (turned n) ≡ turned (bit_or m n)
and_both_turned m n hm hn =
    omega (arith, and_turned m (turned n) hm (omega arith), and_turned n m hn hm, or_add_and m n, and_comm n m, and_comm m (turned n))

and_bits : (x y : ℤ) → FitsSigned w64 x → FitsSigned w64 y → bit_and (cast_unsigned w64 x) (cast_unsigned w64 y) ≡ cast_unsigned w64 (bits_and x y)
and_bits (pos m) (pos n) p q = refl
and_bits (pos m) (negsuc n) p q = omega (arith, p.sfits, q.sfits, and_turned n m (omega (arith, q.sfits)) (omega (arith, p.sfits)), and_comm n m, and_comm m (turned n))
and_bits (negsuc m) (pos n) p q = omega (arith, p.sfits, q.sfits, and_turned m n (omega (arith, p.sfits)) (omega (arith, q.sfits)))
and_bits (negsuc m) (negsuc n) p q = and_both_turned m n (omega (arith, p.sfits)) (omega (arith, q.sfits))

or_bits : (x y : ℤ) → FitsSigned w64 x → FitsSigned w64 y → bit_or (cast_unsigned w64 x) (cast_unsigned w64 y) ≡ cast_unsigned w64 (bits_or x y)
or_bits (pos m) (pos n) p q = refl
or_bits (pos m) (negsuc n) p q = omega (arith, p.sfits, q.sfits, and_bits (pos m) (negsuc n) p q, or_add_and m (turned n), and_le_r m n, and_le_l m n)
or_bits (negsuc m) (pos n) p q = omega (arith, p.sfits, q.sfits, and_bits (negsuc m) (pos n) p q, or_add_and (turned m) n, and_le_r m n, and_le_l m n)
or_bits (negsuc m) (negsuc n) p q =
    omega (arith, p.sfits, q.sfits, and_bits (negsuc m) (negsuc n) p q, or_add_and (turned m) (turned n), or_add_and m n, or_lt 63 m n p.sfits q.sfits)

xor_bits : (x y : ℤ) → FitsSigned w64 x → FitsSigned w64 y → bit_xor (cast_unsigned w64 x) (cast_unsigned w64 y) ≡ cast_unsigned w64 (bits_xor x y)
xor_bits (pos m) (pos n) p q = refl
xor_bits (pos m) (negsuc n) p q = omega (arith, p.sfits, q.sfits, and_bits (pos m) (negsuc n) p q, xor_add_and m (turned n), xor_add_and m n, and_le_r m n, and_le_l m n)
xor_bits (negsuc m) (pos n) p q = omega (arith, p.sfits, q.sfits, and_bits (negsuc m) (pos n) p q, xor_add_and (turned m) n, xor_add_and m n, and_le_r m n, and_le_l m n)
xor_bits (negsuc m) (negsuc n) p q =
    omega (arith, p.sfits, q.sfits, and_bits (negsuc m) (negsuc n) p q, xor_add_and (turned m) (turned n), xor_add_and m n, or_add_and m n, or_lt 63 m n p.sfits q.sfits)

pub and_fits : (x y : ℤ) → FitsSigned w64 x → FitsSigned w64 y → FitsSigned w64 (bits_and x y)
and_fits (pos m) (pos n) p q = record { sfits = omega (arith, p.sfits, and_le_l m n) }
and_fits (negsuc m) (negsuc n) p q = record { sfits = or_lt 63 m n p.sfits q.sfits }
and_fits _ _ p q = record { sfits = omega (arith, p.sfits, q.sfits) }

pub or_fits : (x y : ℤ) → FitsSigned w64 x → FitsSigned w64 y → FitsSigned w64 (bits_or x y)
or_fits (pos m) (pos n) p q = record { sfits = or_lt 63 m n p.sfits q.sfits }
or_fits (negsuc m) (negsuc n) p q = record { sfits = omega (arith, p.sfits, and_le_l m n) }
or_fits _ _ p q = record { sfits = omega (arith, p.sfits, q.sfits) }

pub xor_fits : (x y : ℤ) → FitsSigned w64 x → FitsSigned w64 y → FitsSigned w64 (bits_xor x y)
xor_fits (pos m) (pos n) p q = record { sfits = xor_lt 63 m n p.sfits q.sfits }
xor_fits (negsuc m) (negsuc n) p q = record { sfits = xor_lt 63 m n p.sfits q.sfits }
xor_fits _ _ p q = record { sfits = search (xor_lt, p.sfits, q.sfits) }

-- what is worked out in 64 bits is given, where it fits
cast_given : (n : ℕ) (z : ℤ) → n ≡ cast_unsigned w64 z → FitsSigned w64 z → computed (Some (cast_signed w64 n)) ≡ integer z
cast_given n z e fit = rw (e, to_z-of_z w64 z fit) (given z fit)

pub both_bits_given : (x y : ℤ) → FitsSigned w64 x → FitsSigned w64 y → computed (Some (int_bit_and w64 x y)) ≡ integer (bits_and x y)
both_bits_given x y p q = cast_given _ (bits_and x y) (and_bits x y p q) (and_fits x y p q)

pub either_bits_given : (x y : ℤ) → FitsSigned w64 x → FitsSigned w64 y → computed (Some (int_bit_or w64 x y)) ≡ integer (bits_or x y)
either_bits_given x y p q = cast_given _ (bits_or x y) (or_bits x y p q) (or_fits x y p q)

pub differing_bits_given : (x y : ℤ) → FitsSigned w64 x → FitsSigned w64 y → computed (Some (int_bit_xor w64 x y)) ≡ integer (bits_xor x y)
differing_bits_given x y p q = cast_given _ (bits_xor x y) (xor_bits x y p q) (xor_fits x y p q)

not_bits : (x : ℤ) → FitsSigned w64 x → 2 ^ 64 - 1 - cast_unsigned w64 x ≡ cast_unsigned w64 (bits_not x)
not_bits (pos m) p = omega (arith, p.sfits)
not_bits (negsuc m) p = omega (arith, p.sfits)

pub not_fits : (x : ℤ) → FitsSigned w64 x → FitsSigned w64 (bits_not x)
not_fits (pos m) p = record { sfits = p.sfits }
not_fits (negsuc m) p = record { sfits = p.sfits }

pub turned_bits_given : (x : ℤ) → FitsSigned w64 x → computed (Some (int_bit_not w64 x)) ≡ integer (bits_not x)
turned_bits_given x p = cast_given _ (bits_not x) (not_bits x p) (not_fits x p)
