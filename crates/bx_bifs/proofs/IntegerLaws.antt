-- The laws of arithmetic.
use Rattle.bx_bifs.proofs.Words.{◌≡◌, ℕ, zero, suc, ◌+◌, ◌*◌, ◌/◌, ◌%◌, ◌^◌, ℤ, pos, negsuc, ◌+ℤ◌, ◌*ℤ◌, ◌≤ℤ◌, ◌<ℤ◌, Bool, true, false, inl, inr, sym, arith}
use Rattle.bx_bifs.proofs.Words.{subst, if◌then◌else◌, or_add_and, cases_Bool, ints, div-add-mod', pow_pos, mod_below, and_le_l, and_le_r, int, Value, fits}
use Rattle.bx_bifs.proofs.Words.{integer, badarith, bits_and, bits_or, over_power}

-- an integer that is given is the one that was worked out
pub worked_out : (z q : ℤ) → integer z ≡ Value (int q) → z ≡ q
worked_out z q e = elim (cases_Bool (fits z)) [ inl t ↦ cc (rw t at e) | inr f ↦ cc (rw f at e) ]

pub unless_zero : (zero_divisor : Bool) (z q : ℤ) → (if zero_divisor then badarith else integer z) ≡ Value (int q) → z ≡ q
unless_zero true z q e = cc
unless_zero false z q e = worked_out z q e

pub between : (a : ℤ) (n : ℕ) → ((over_power a n *ℤ pos (2 ^ n)) ≤ℤ a) × (a <ℤ ((over_power a n +ℤ pos 1) *ℤ pos (2 ^ n)))
between (pos m) n =
    let parts = div-add-mod' m (2 ^ n) in
    let rest = mod_below m (2 ^ n) (pow_pos n) in
    (omega (arith, ints), omega (arith, ints))
between (negsuc m) n =
    let parts = div-add-mod' m (2 ^ n) in
    let rest = mod_below m (2 ^ n) (pow_pos n) in
    (omega (arith, ints), by (m / 2 ^ n) parts)
  where
    by : (k : ℕ) → k * 2 ^ n + m % 2 ^ n ≡ m → negsuc m <ℤ ((negsuc k +ℤ pos 1) *ℤ pos (2 ^ n))
    by zero all = omega (arith, ints)
    by (suc k) all =
        let one_less : negsuc (suc k) +ℤ pos 1 ≡ negsuc k = omega (arith, ints) in
        let P : ℤ → Type 0 = λ z. negsuc m <ℤ (z *ℤ pos (2 ^ n)) in
        subst P (sym one_less) (omega (arith, ints))

pub sums : (a b : ℤ) → bits_and a b +ℤ bits_or a b ≡ a +ℤ b
sums (pos m) (pos n) = omega (arith, ints, or_add_and m n)
sums (negsuc m) (negsuc n) = omega (arith, ints, or_add_and m n)
sums _ _ = omega (arith, ints, and_le_l, and_le_r)
