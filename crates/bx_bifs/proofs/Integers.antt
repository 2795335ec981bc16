-- Integers within 64 bits.
use Rattle.bx_bifs.proofs.Words.{◌≡◌, zero, suc, ℤ, pos, negsuc, Option, Some, None, refl, sym, ap, ◌∙◌, arith, neg_ℤ, unsigned_abs, SomeIff, w64, FitsSigned}
use Rattle.bx_bifs.proofs.Words.{nat_tests, false_from_ne_true, int, Value, fits, integer, computed, integer_of}
use Rattle.std.specs.Bool.{Decides}

pub fits_decides : (z : ℤ) → Decides (fits z) (FitsSigned w64 z)
fits_decides (pos n) = ((λ e. record { sfits = grind (arith, nat_tests) }), (λ h. let bound = h.sfits in grind (arith, nat_tests)))
fits_decides (negsuc n) = ((λ e. record { sfits = grind (arith, nat_tests) }), (λ h. let bound = h.sfits in grind (arith, nat_tests)))

-- an integer that fits is given
pub given : (z : ℤ) → FitsSigned w64 z → computed (Some z) ≡ integer z
given z h = rw ((fits_decides z).1 h)

-- what was computed exactly where it fits
pub checked : (r : Option ℤ) (z : ℤ) → SomeIff r (FitsSigned w64 z) z → computed r ≡ integer z
checked None z h = rw (false_from_ne_true (fits z) (λ e. h ((fits_decides z).0 e)))
checked (Some x) z h = rw h.1 (given z h.0)

pub given_some : (r : Option ℤ) (z k : ℤ) → r ≡ Some k → SomeIff r (FitsSigned w64 z) z → integer z ≡ Value (int k)
given_some r z k e h = sym (checked r z h) ∙ ap computed e

computed_is : (r : Option ℤ) → integer_of (computed r) ≡ r
computed_is (Some k) = refl
computed_is None = refl

pub given_all : (r : Option ℤ) (z : ℤ) → SomeIff r (FitsSigned w64 z) z → integer_of (integer z) ≡ r
given_all r z h = ap integer_of (sym (checked r z h)) ∙ computed_is r

-- a magnitude fits exactly where the number turned round does
turned_round : (z : ℤ) → FitsSigned w64 z → FitsSigned w64 (neg_ℤ z) → FitsSigned w64 (pos (unsigned_abs z))
turned_round (pos n) fit turned = fit
turned_round (negsuc n) fit turned = turned

turned_back : (z : ℤ) → FitsSigned w64 (pos (unsigned_abs z)) → FitsSigned w64 (neg_ℤ z)
turned_back (pos zero) fit = fit
turned_back (pos (suc n)) fit = let bound = fit.sfits in record { sfits = omega arith }
turned_back (negsuc n) fit = fit

pub magnitude_checked : (r : Option ℤ) (z : ℤ) → FitsSigned w64 z → SomeIff r (FitsSigned w64 (neg_ℤ z)) (pos (unsigned_abs z)) → computed r ≡ integer (pos (unsigned_abs z))
magnitude_checked None z fit h = checked None (pos (unsigned_abs z)) (λ over. h (turned_back z over))
magnitude_checked (Some x) z fit h = checked (Some x) (pos (unsigned_abs z)) (turned_round z fit h.0, h.1)
