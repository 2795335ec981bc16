-- What the arithmetic operators give on two integers.
-- Source: Erlang Reference Manual, "Expressions", "Arithmetic Expressions".
use Rattle.std.specs.Prelude.{ℤ, pos, ◌+ℤ◌, ◌-ℤ◌, ◌*ℤ◌, int_div, int_rem, if◌then◌else◌}
use Rattle.std.specs.Ordering.{int_eq}
use Rattle.bx_bifs.specs.declared.given.Given.{Given}
use Rattle.bx_bifs.specs.Given.{integer, badarith}
use Rattle.bx_bifs.specs.Bits.{bits_and, bits_or, bits_xor}
use Rattle.bx_bifs.specs.Shifts.{shifted_left, shifted_right}

abbrev pub sum : ℤ → ℤ → Given
sum m n = integer (m +ℤ n)

abbrev pub difference : ℤ → ℤ → Given
difference m n = integer (m -ℤ n)

abbrev pub product : ℤ → ℤ → Given
product m n = integer (m *ℤ n)

-- rounded towards zero
abbrev pub quotient : ℤ → ℤ → Given
quotient m n = if int_eq n (pos 0) then badarith else integer (int_div m n)

-- with the sign of the dividend
abbrev pub remainder : ℤ → ℤ → Given
remainder m n = if int_eq n (pos 0) then badarith else integer (int_rem m n)

abbrev pub both_bits : ℤ → ℤ → Given
both_bits m n = integer (bits_and m n)

abbrev pub either_bits : ℤ → ℤ → Given
either_bits m n = integer (bits_or m n)

abbrev pub differing_bits : ℤ → ℤ → Given
differing_bits m n = integer (bits_xor m n)

abbrev pub left_shift : ℤ → ℤ → Given
left_shift m n = integer (shifted_left m n)

abbrev pub right_shift : ℤ → ℤ → Given
right_shift m n = integer (shifted_right m n)
