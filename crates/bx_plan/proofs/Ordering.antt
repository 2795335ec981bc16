-- Schedules in order: those stand together that begin alike.
use Rattle.bx_plan.proofs.Words.{◌≡◌, ◌≢◌, ◌<◌, ◌≤◌, true, false, List, [], ◌∷◌, ◌++◌, refl, sym, ap, ◌∙◌, arith, Ordering, ordering_reverse, is_gt, cases_Bool, cases_lt, nat_tests, lists_total, Equal, ordering_then, IsTotalOrder}
use Rattle.bx_plan.proofs.Words.{nat_cmp_total, on_total, then_total, tied_itself, rank, Choice, choice_cmp, choices_cmp, common}
use Rattle.bx_plan.proofs.Commons.{common_apart, common_here, common_least, common_turned, same_or_not}

pub choice_total : IsTotalOrder choice_cmp
choice_total = then_total (on_total (λ c. (rank c).0) nat_cmp_total) (then_total (on_total (λ c. (rank c).1) nat_cmp_total) (on_total (λ c. (rank c).2) nat_cmp_total))

equal_choices : (a b : Choice) → choice_cmp a b ≡ Equal → a ≡ b
equal_choices a b h = grind (arith, nat_tests)

-- a choice that is behind neither of two that are the same is that one
level : (o p q r : Ordering) → o ≡ ordering_reverse p → is_gt (ordering_then o q) ≡ false → is_gt (ordering_then p r) ≡ false → (o ≡ Equal) × (p ≡ Equal) × (is_gt q ≡ false) × (is_gt r ≡ false)
level o p q r e h k = grind arith

-- of two, one does not stand behind the other
turned : (o p : Ordering) → o ≡ ordering_reverse p → is_gt p ≡ true → is_gt o ≡ false
turned o p e h = grind arith

pub turned_back : (a b : List Choice) → is_gt (choices_cmp a b) ≡ true → is_gt (choices_cmp b a) ≡ false
turned_back a b h = turned (choices_cmp b a) (choices_cmp a b) ((lists_total choice_total).antisymm b a) h

pub between : (a b c : List Choice) → is_gt (choices_cmp a b) ≡ false → is_gt (choices_cmp b c) ≡ false → (common a c ≤ common a b) × (common a c ≤ common b c)
between [] b c h k = (omega arith, omega arith)
between (x ∷ xs) [] c h k = cc
between (x ∷ xs) (y ∷ ys) [] h k = (omega arith, omega arith)
between (x ∷ xs) (y ∷ ys) (z ∷ zs) h k = grind (arith, same_or_not, common_apart, turned, choice_total, level, equal_choices, common_here, between xs ys zs)

-- one that begins with more choices as a third before both stands first
pub more_first : (a b c : List Choice) → is_gt (choices_cmp a b) ≡ false → is_gt (choices_cmp a c) ≡ false → common a c < common a b
    → (is_gt (choices_cmp b c) ≡ false) × (common b c ≡ common a c)
more_first a b c h k less = grind (arith, cases_Bool, cases_lt, between, turned_back, common_least, common_turned)

-- the order of two that begin alike or do not
pub cmp_here : (x y : Choice) (xs ys : List Choice) → x ≡ y → choices_cmp (x ∷ xs) (y ∷ ys) ≡ choices_cmp xs ys
cmp_here x y xs ys e = ap (λ o. ordering_then o (choices_cmp xs ys)) (ap (choice_cmp x) (sym e) ∙ tied_itself choice_total x)

pub cmp_apart : (x y : Choice) (xs ys : List Choice) → x ≢ y → choices_cmp (x ∷ xs) (y ∷ ys) ≡ choice_cmp x y
cmp_apart x y xs ys n = grind (arith, equal_choices)

pub cmp_append : (front xs ys : List Choice) → choices_cmp (front ++ xs) (front ++ ys) ≡ choices_cmp xs ys
cmp_append [] xs ys = refl
cmp_append (c ∷ front) xs ys = cmp_here c c (front ++ xs) (front ++ ys) refl ∙ cmp_append front xs ys
