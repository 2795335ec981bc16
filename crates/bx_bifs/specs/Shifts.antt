-- Arithmetic shifts of integers of any size.
-- Source: Erlang Reference Manual, "Expressions", "Arithmetic Expressions".
use Rattle.std.specs.Prelude.{ℕ, suc, ◌/◌, ◌^◌, ℤ, pos, negsuc, ◌*ℤ◌}

-- n * 2^places
abbrev pub times_power : ℤ → ℕ → ℤ
times_power n places = n *ℤ pos (2 ^ places)

-- n / 2^places, rounded down
abbrev pub over_power : ℤ → ℕ → ℤ
over_power (pos n) places = pos (n / 2 ^ places)
over_power (negsuc n) places = negsuc (n / 2 ^ places)

-- a shift by a negative number of places goes the other way round
abbrev pub shifted_left : ℤ → ℤ → ℤ
shifted_left n (pos places) = times_power n places
shifted_left n (negsuc places) = over_power n (suc places)

abbrev pub shifted_right : ℤ → ℤ → ℤ
shifted_right n (pos places) = over_power n places
shifted_right n (negsuc places) = times_power n (suc places)
