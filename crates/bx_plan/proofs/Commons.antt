-- How many choices two schedules begin with alike.
use Rattle.bx_plan.proofs.Words.{◌≡◌, ◌≢◌, ◌⊎◌, ⊎_elim, inl, inr, ℕ, zero, suc, ◌+◌, ◌≤◌, List, [], ◌∷◌, ◌++◌, length, take, refl, sym, ◌∙◌, arith, Decides, length-append, both_ways, cases_Bool, cond_both, cond-false, cond-true}
use Rattle.bx_plan.proofs.Words.{false_from_ne_true, nat_tests, length-take-le, take_all, take_at, Choice, common, choice_eq}

pub choice_decides : (a b : Choice) → Decides (choice_eq a b) (a ≡ b)
choice_decides a b = (λ h. grind (arith, nat_tests), λ e. grind (arith, nat_tests))

-- two choices are the same, or not
pub same_or_not : (x y : Choice) → (x ≡ y) ⊎ (x ≢ y)
same_or_not x y = ⊎_elim (λ t. inl ((choice_decides x y).0 t)) (λ f. inr (λ e. both_ways _ f ((choice_decides x y).1 e))) (cases_Bool (choice_eq x y))

pub common_here : (x y : Choice) (xs ys : List Choice) → x ≡ y → common (x ∷ xs) (y ∷ ys) ≡ suc (common xs ys)
common_here x y xs ys e = cond-true (choice_eq x y) (suc (common xs ys)) 0 ((choice_decides x y).1 e)

pub common_apart : (x y : Choice) (xs ys : List Choice) → x ≢ y → common (x ∷ xs) (y ∷ ys) ≡ 0
common_apart x y xs ys n = cond-false (choice_eq x y) (suc (common xs ys)) 0 (false_from_ne_true (choice_eq x y) (λ t. n ((choice_decides x y).0 t)))

pub common_short : (a b : List Choice) → (common a b ≤ length a) × (common a b ≤ length b)
common_short [] b = (omega arith, omega arith)
common_short (x ∷ xs) [] = (omega arith, omega arith)
common_short (x ∷ xs) (y ∷ ys) = grind (arith, cond_both, common_short xs ys)

pub taken_alike : (a b : List Choice) (n : ℕ) → n ≤ common a b → take n a ≡ take n b
taken_alike a b zero h = refl
taken_alike [] b (suc n) h = absurd (omega (arith, h))
taken_alike (x ∷ xs) [] (suc n) h = absurd (omega (arith, h))
taken_alike (x ∷ xs) (y ∷ ys) (suc n) h = grind (arith, cond_both, choice_decides, taken_alike xs ys n)

pub common_long : (a b : List Choice) (n : ℕ) → n ≤ length a → n ≤ length b → take n a ≡ take n b → n ≤ common a b
common_long a b zero h l e = omega arith
common_long [] b (suc n) h l e = absurd (omega (arith, h))
common_long (x ∷ xs) [] (suc n) h l e = absurd (omega (arith, l))
common_long (x ∷ xs) (y ∷ ys) (suc n) h l e =
    let first : x ≡ y = cc in
    let rest : take n xs ≡ take n ys = cc in
    omega (arith, common_here x y xs ys first, common_long xs ys n (omega (arith, h)) (omega (arith, l)) rest)

pub common_same : (a : List Choice) → common a a ≡ length a
common_same a = omega (arith, common_long a a (length a) (omega arith) (omega arith) refl, (common_short a a).0)

pub common_turned : (a b : List Choice) → common a b ≡ common b a
common_turned a b = grind (arith, common_long, common_short, taken_alike)

-- two that begin alike as a third does
pub common_least : (a b c : List Choice) (n : ℕ) → n ≤ common a b → n ≤ common b c → n ≤ common a c
common_least a b c n h k = common_long a c n (omega (arith, h, (common_short a b).0)) (omega (arith, k, (common_short b c).1)) (taken_alike a b n h ∙ taken_alike b c n k)

-- one that begins with so many of another's choices
pub begins_common : (a b rest : List Choice) (n : ℕ) → n ≤ length b → a ≡ take n b ++ rest → n ≤ common a b
begins_common a b rest n h e = grind (arith, length-take-le, common_long, length-append, take_at)

pub common_append : (front xs ys : List Choice) → common (front ++ xs) (front ++ ys) ≡ length front + common xs ys
common_append [] xs ys = omega arith
common_append (c ∷ front) xs ys = omega (arith, common_here c c (front ++ xs) (front ++ ys) refl, common_append front xs ys)

-- all of both is alike
pub all_alike : (a b : List Choice) → length a ≡ length b → length a ≡ common a b → a ≡ b
all_alike a b e f = sym (take_all (length a) a (omega arith)) ∙ taken_alike a b (length a) (omega (arith, f)) ∙ take_all (length a) b (omega (arith, e))
