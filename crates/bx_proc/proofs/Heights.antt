-- How high what is built of others is.
use Rattle.std.proofs.Common.{◌≡◌, ◌<◌, ◌≤◌, ℕ, Bool, true, false, refl, sym, ◌∙◌, arith}
use Rattle.std.proofs.lemmas.Bool.Decides.{nat_tests}
use Rattle.std.specs.Prelude.{IsOkAnd, List, max, nat_le, Result, Ok, Err, if◌then◌else◌}
use Rattle.bx_terms.specs.Outcomes.{◌>>=◌}
use Rattle.bx_terms.specs.Tree.{Tree, cons, tuple, listed, height}
use Rattle.bx_terms.specs.declared.kinds.Class.TheVariants.{Throw}
use Rattle.bx_terms.specs.declared.kinds.Trap.{Trap, TheVariants.TermHeight}
use Rattle.bx_proc.specs.Faults.{pair, reason, within_height}
use Rattle.bx_proc.specs.Moving.{IsTallest}

high : (t : Tree) (b : Bool) → nat_le (height t) 10000 ≡ b → 10000 < height t → (if b then Ok t else Err TermHeight) ≡ Err TermHeight
high t true e h = absurd (grind (arith, nat_tests))
high t false e h = refl

low : (t : Tree) (b : Bool) → nat_le (height t) 10000 ≡ b → height t ≤ 10000 → (if b then Ok t else Err TermHeight) ≡ Ok t
low t true e h = refl
low t false e h = absurd (grind (arith, nat_tests))

pub too_high : (t : Tree) → 10000 < height t → within_height t ≡ Err TermHeight
too_high t h = high t (nat_le (height t) 10000) refl h

pub low_enough : (t : Tree) → height t ≤ 10000 → within_height t ≡ Ok t
low_enough t h = low t (nat_le (height t) 10000) refl h

-- a pair is one higher than the higher of the two
pub pair_low : (t u : Tree) → height t < 10000 → height u < 10000 → height (pair t u) ≤ 10000
pair_low t u h k = omega (arith, h, k)

pub first_high : (t u : Tree) → height t ≡ 10000 → within_height (pair t u) ≡ Err TermHeight
first_high t u h = too_high (pair t u) (omega (arith, h))

pub second_high : (t u : Tree) → height u ≡ 10000 → within_height (pair t u) ≡ Err TermHeight
second_high t u h = too_high (pair t u) (omega (arith, h))

pub refused_high : (t : Tree) (kind : Trap) → height t ≤ 10000 → within_height t ≡ Err kind → ⊥
refused_high t kind h e = let same : ◌≡◌ {A = Result Tree Trap} (Ok t) (Err kind) = sym (low_enough t h) ∙ e in cc

pub uncaught_high : (v : Tree) → 9998 < height v → within_height (reason Throw v) ≡ Err TermHeight
uncaught_high v h = too_high (reason Throw v) (omega (arith, h))

pub uncaught_low : (v : Tree) → height v ≤ 9998 → height (reason Throw v) ≤ 10000
uncaught_low v h = omega (arith, h)

-- a list cell is one higher than the higher of its parts
pub cell_low : (t u : Tree) → max (height t) (height u) < 10000 → height (cons t u) ≤ 10000
cell_low t u h = omega (arith, h)

pub cell_high : (t u : Tree) → 10000 ≤ max (height t) (height u) → within_height (cons t u) ≡ Err TermHeight
cell_high t u h = too_high (cons t u) (omega (arith, h))

-- a tuple is one higher than its highest element
pub tuple_low : (n : ℕ) (read : Result (List Tree) Trap) → IsTallest n read → n < 10000 → IsOkAnd read (λ ts. height (tuple (listed ts)) ≤ 10000)
tuple_low n (Ok ts) h less = omega (arith, h, less)
tuple_low n (Err kind) h less = h

pub tuple_high : (n : ℕ) (read : Result (List Tree) Trap) → IsTallest n read → 10000 ≤ n → (read >>= λ ts. within_height (tuple (listed ts))) ≡ Err TermHeight
tuple_high n (Ok ts) h more = too_high (tuple (listed ts)) (omega (arith, h, more))
tuple_high n (Err kind) h more = absurd h
