-- The message that an exit signal becomes is one higher than the reason.
use Rattle.bx_world.proofs.Words.{◌≡◌, ◌≢◌, ◌≤◌, ◌+◌, ℕ, Bool, true, false, Some, None, refl, arith, Result, Ok, Err, OnErr, IsSome, if◌then◌else◌, Tree, exit_message, low_enough}
use Rattle.std.specs.Prelude.{nat_le}
use Rattle.std.proofs.lemmas.Bool.Decides.{nat_tests}
use Rattle.bx_terms.specs.Tree.{height}

message_height : (p : ℕ) (reason : Tree) → height (exit_message p reason) ≡ 1 + height reason
message_height p reason = omega arith

pub too_high : (p : ℕ) (reason : Tree) → height reason ≡ 10000 → None ≡ low_enough (exit_message p reason)
too_high p reason high = go (nat_le (height (exit_message p reason)) 10000) refl
  where
    go : (b : Bool) → nat_le (height (exit_message p reason)) 10000 ≡ b → None ≡ (if b then Some (exit_message p reason) else None)
    go true e = let one = message_height p reason in absurd (grind (arith, nat_tests))
    go false e = refl

fits : (p : ℕ) (reason : Tree) → height reason ≤ 10000 → height reason ≢ 10000 → IsSome (low_enough (exit_message p reason))
fits p reason within other = go (nat_le (height (exit_message p reason)) 10000) refl
  where
    go : (b : Bool) → nat_le (height (exit_message p reason)) 10000 ≡ b → IsSome (if b then Some (exit_message p reason) else None)
    go true e = refl
    go false e = let one = message_height p reason in absurd (grind (arith, nat_tests))

pub fits_on_err : {X E : Type 0} (r : Result X E) (p : ℕ) (reason : Tree) → height reason ≤ 10000 → height reason ≢ 10000 → OnErr r (IsSome (low_enough (exit_message p reason)))
fits_on_err (Ok x) p reason within other = tt
fits_on_err (Err e) p reason within other = fits p reason within other
