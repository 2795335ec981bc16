-- How often numbers stand in lists, and tests on numbers.
use Rattle.bx_plan.proofs.Words.{◌≡◌, ◌⊎◌, ℕ, ◌+◌, ◌<◌, ◌≤◌, ◌==◌, ◌&&◌, ◌≢◌, Bool, true, false, cond, List, ◌++◌, refl, sum_by-append, cases_lt, ne_eqb, times}

pub times-append : (n : ℕ) (xs ys : List ℕ) → times n (xs ++ ys) ≡ times n xs + times n ys
times-append n xs ys = sum_by-append (λ x. cond (x == n) 1 0) xs ys

pub not_eq : (a b : ℕ) → a ≢ b → (a == b) ≡ false
not_eq a b h = ne_eqb a b h

pub below_or_past : (n m : ℕ) → (n < m) ⊎ (m ≤ n)
below_or_past n m = cases_lt n m

pub both_true : (a b x : Bool) → a ≡ true → b ≡ true → (a && b && x) ≡ x
both_true true true x p q = refl
both_true true false x p q = cc
both_true false b x p q = cc

pub mid_false : (a b x : Bool) → b ≡ false → (a && b && x) ≡ false
mid_false true true x h = cc
mid_false true false x h = refl
mid_false false b x h = refl

pub and_false : (x : Bool) → (x && false) ≡ false
and_false true = refl
and_false false = refl
