-- Shifts by powers of two.
use Rattle.bx_bifs.proofs.Words.{◌≡◌, ◌≢◌, ℕ, zero, suc, ◌*◌, ◌/◌, ◌<◌, ◌≤◌, ◌^◌, ℤ, pos, negsuc, Some, None, refl, sym, ap, ◌∙◌, arith, inl, inr, unsigned_abs}
use Rattle.bx_bifs.proofs.Words.{lit<, FitsSigned, min, w64, int_shr, mul-le, div_below, pow_pos, shr_le, unsigned_abs-mul, cases_lt, integer, computed}
use Rattle.bx_bifs.proofs.Words.{times_power, over_power}
use Rattle.std.proofs.Math.Nat.{pow-le-pow_right}
use Rattle.bx_bifs.proofs.Integers.{given, checked}

pub nothing_up : (places : ℕ) → computed (Some (pos 0)) ≡ integer (times_power (pos 0) places)
nothing_up places = let none : 0 * 2 ^ places ≡ 0 = omega arith in rw none

not_zero : (m : ℤ) → m ≢ pos 0 → 1 ≤ unsigned_abs m
not_zero (pos zero) some = absurd (some refl)
not_zero (pos (suc a)) some = omega arith
not_zero (negsuc a) some = omega arith

abs_fits : (z : ℤ) → FitsSigned w64 z → unsigned_abs z ≤ 2 ^ 63
abs_fits (pos n) h = let bound = h.sfits in omega arith
abs_fits (negsuc n) h = let bound = h.sfits in omega arith

pub past_up : (m : ℤ) (places : ℕ) → m ≢ pos 0 → 64 ≤ places → computed None ≡ integer (times_power m places)
past_up m places some far = checked None (times_power m places) (λ fit.
    let least = mul-le 1 (2 ^ 64) (unsigned_abs m) (2 ^ places) (not_zero m some) (pow-le-pow_right (lit< tt) far) in
    omega (arith, abs_fits (times_power m places) fit, unsigned_abs-mul m (pos (2 ^ places)), least))

-- past 63 places nothing is left of a number below 2^63
gone : (a places : ℕ) → a < 2 ^ 63 → 63 ≤ places → a / 2 ^ places ≡ 0
gone a places small far =
    let power : 2 ^ 63 ≤ 2 ^ places = pow-le-pow_right (lit< tt) far in
    omega (arith, div_below a (2 ^ places) 1 (pow_pos places) (omega arith))

down_capped : (a places : ℕ) → a < 2 ^ 63 → a / 2 ^ min places 63 ≡ a / 2 ^ places
down_capped a places small = elim (cases_lt places 63) [
  | inl near ↦ let same : min places 63 ≡ places = omega arith in rw same
  | inr far ↦ let same : min places 63 ≡ 63 = omega arith in rw (same, gone a 63 small (omega arith), gone a places small (omega arith))
]

pub down : (m : ℤ) (places : ℕ) → FitsSigned w64 m → computed (Some (int_shr m (min places 63))) ≡ integer (over_power m places)
down (pos a) places fit = rw (down_capped a places fit.sfits) (given (pos (a / 2 ^ places)) (record { sfits = omega (arith, fit.sfits, shr_le a places) }))
down (negsuc a) places fit = rw (down_capped a places fit.sfits) (given (negsuc (a / 2 ^ places)) (record { sfits = omega (arith, fit.sfits, shr_le a places) }))
