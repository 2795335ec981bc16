-- Bitwise operators on integers of any size, in two's complement: a negative integer has ones from some place on.
-- Source: Erlang Reference Manual, "Expressions", "Arithmetic Expressions".
use Rattle.std.specs.Prelude.{ℕ, ◌-◌, ℤ, pos, negsuc, bit_and, bit_or, bit_xor}
use Rattle.std.specs.Int.{bit_at}

-- `negsuc n` is -(n + 1), whose bits are those of n turned
abbrev pub bit : ℤ → ℕ → ℕ
bit (pos n) place = bit_at n place
bit (negsuc n) place = 1 - bit_at n place

abbrev pub bits_not : ℤ → ℤ
bits_not (pos m) = negsuc m
bits_not (negsuc m) = pos m

-- the bits of m that n has not are what is left of m without those that both have
abbrev pub bits_and : ℤ → ℤ → ℤ
bits_and (pos m) (pos n) = pos (bit_and m n)
bits_and (pos m) (negsuc n) = pos (m - bit_and m n)
bits_and (negsuc m) (pos n) = pos (n - bit_and m n)
bits_and (negsuc m) (negsuc n) = negsuc (bit_or m n)

abbrev pub bits_or : ℤ → ℤ → ℤ
bits_or (pos m) (pos n) = pos (bit_or m n)
bits_or (pos m) (negsuc n) = negsuc (n - bit_and m n)
bits_or (negsuc m) (pos n) = negsuc (m - bit_and m n)
bits_or (negsuc m) (negsuc n) = negsuc (bit_and m n)

abbrev pub bits_xor : ℤ → ℤ → ℤ
bits_xor (pos m) (pos n) = pos (bit_xor m n)
bits_xor (pos m) (negsuc n) = negsuc (bit_xor m n)
bits_xor (negsuc m) (pos n) = negsuc (bit_xor m n)
bits_xor (negsuc m) (negsuc n) = pos (bit_xor m n)
