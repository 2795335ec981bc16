-- Where two rows of stretches part.
use Rattle.bx_plan.proofs.Words.{◌≡◌, ◌≢◌, ℕ, zero, suc, ◌+◌, ◌-◌, ◌<◌, ◌≤◌, min, List, [], ◌∷◌, ◌++◌, get_or, replicate, take, sym, ap, ◌∙◌, arith, length-replicate, length-take-le, take-append-drop, Choice, Less, Greater, next_cmp}
use Rattle.bx_plan.proofs.Words.{BeginAlike, Stretch, choice_cmp, choices_cmp, common, behind, choices_from, AreStretches}
use Rattle.bx_plan.specs.Forks.{choice_first, IsLeft}
use Rattle.bx_plan.proofs.Commons.{common_apart, common_append, common_short, taken_alike}
use Rattle.bx_plan.proofs.Ordering.{cmp_apart, cmp_append}
use Rattle.bx_plan.proofs.Stretching.{no_stretch, stepped}

-- what is left of both, so far as they go on alike
pub record Walked (xs ys : List Choice) (past : ℕ) (left right : List Stretch) : Type 0 where
  pub one : AreStretches past left
  pub other : AreStretches past right
  pub common : common xs ys ≡ past + common (choices_from past left) (choices_from past right)
  pub order : choices_cmp xs ys ≡ choices_cmp (choices_from past left) (choices_from past right)

-- so many choices are known to be alike
pub walked_known : (xs ys : List Choice) (known : ℕ) (left right : List Stretch) → known ≤ common xs ys → IsLeft xs known left → IsLeft ys known right → Walked xs ys known left right
walked_known xs ys known left right few one other =
    let front = take known xs in
    let first : front ++ choices_from known left ≡ xs = ap (λ cs. front ++ cs) one.rest ∙ take-append-drop known xs in
    let second : front ++ choices_from known right ≡ ys = ap (λ cs. cs ++ choices_from known right) (taken_alike xs ys known few) ∙ ap (λ cs. take known ys ++ cs) other.rest ∙ take-append-drop known ys in
    record {
      one = one.rising;
      other = other.rising;
      common = omega (
        arith,
        ap (λ cs. common cs ys) (sym first),
        ap (common (front ++ choices_from known left)) (sym second),
        common_append front (choices_from known left) (choices_from known right),
        length-take-le known xs (omega (arith, few, (common_short xs ys).0)),
      );
      order = ap (λ cs. choices_cmp cs ys) (sym first) ∙ ap (choices_cmp (front ++ choices_from known left)) (sym second) ∙ cmp_append front (choices_from known left) (choices_from known right);
    }

-- both go on by the same choice
pub walked_on : (xs ys : List Choice) (m p : ℕ) (left right : List Stretch) → Walked xs ys m left right → BeginAlike left right → p ≡ min (get_or left 0 no_stretch).past (get_or right 0 no_stretch).past
    → Walked xs ys p (behind p left) (behind p right) × (m < p)
walked_on xs ys m p [] right is alike e = absurd alike
walked_on xs ys m p (x ∷ left) [] is alike e = absurd alike
walked_on xs ys m p (x ∷ left) (y ∷ right) is alike e =
    let some = is.one.0 in
    let other = is.other.0 in
    let first = stepped m p x left is.one (omega (arith, e, some, other)) (omega (arith, e)) in
    let second = stepped m p y right is.other (omega (arith, e, some, other)) (omega (arith, e)) in
    let same : choices_from m (y ∷ right) ≡ replicate (p - m) x.choice ++ choices_from p (behind p (y ∷ right)) = second.1 ∙ ap (λ c. replicate (p - m) c ++ choices_from p (behind p (y ∷ right))) (sym alike) in (
      record {
        one = first.0;
        other = second.0;
        common = omega (
          arith,
          is.common,
          ap (λ cs. common cs (choices_from m (y ∷ right))) first.1,
          ap (common (replicate (p - m) x.choice ++ choices_from p (behind p (x ∷ left)))) same,
          common_append (replicate (p - m) x.choice) (choices_from p (behind p (x ∷ left))) (choices_from p (behind p (y ∷ right))),
          length-replicate (p - m) x.choice,
          e,
          some,
          other,
        );
        order = is.order ∙ ap (λ cs. choices_cmp cs (choices_from m (y ∷ right))) first.1 ∙ ap (choices_cmp (replicate (p - m) x.choice ++ choices_from p (behind p (x ∷ left)))) same
            ∙ cmp_append (replicate (p - m) x.choice) (choices_from p (behind p (x ∷ left))) (choices_from p (behind p (y ∷ right)));
      },
      omega (arith, e, some, other),
    )

parted : (a b : Choice) (m n : ℕ) (xs ys : List Choice) → 0 < m → 0 < n → a ≢ b
    → (common (replicate m a ++ xs) (replicate n b ++ ys) ≡ 0) × (choices_cmp (replicate m a ++ xs) (replicate n b ++ ys) ≡ choice_cmp a b)
parted a b zero n xs ys h l apart = absurd (omega (arith, h))
parted a b (suc m) zero xs ys h l apart = absurd (omega (arith, l))
parted a b (suc m) (suc n) xs ys h l apart = (common_apart a b (replicate m a ++ xs) (replicate n b ++ ys) apart, cmp_apart a b (replicate m a ++ xs) (replicate n b ++ ys) apart)

ended : (c : Choice) (m : ℕ) (xs : List Choice) → 0 < m
    → (choices_cmp [] (replicate m c ++ xs) ≡ Less) × (choices_cmp (replicate m c ++ xs) [] ≡ Greater) × (common (replicate m c ++ xs) [] ≡ 0)
ended c m xs h3 = grind (arith)

-- they go on by different choices, or one does not go on
pub walked_all : (xs ys : List Choice) (m : ℕ) (left right : List Stretch) → Walked xs ys m left right → (BeginAlike left right → ⊥) → (m ≡ common xs ys) × (next_cmp (choice_first left) (choice_first right) ≡ choices_cmp xs ys)
walked_all xs ys m [] [] is apart = (omega (arith, is.common), sym is.order)
walked_all xs ys m [] (y ∷ right) is apart = (omega (arith, is.common), sym (is.order ∙ (ended y.choice (y.past - m) (choices_from y.past right) (omega (arith, is.other.0))).0))
walked_all xs ys m (x ∷ left) [] is apart =
    let alone = ended x.choice (x.past - m) (choices_from x.past left) (omega (arith, is.one.0)) in
    (omega (arith, is.common, alone.2), sym (is.order ∙ alone.1))
walked_all xs ys m (x ∷ left) (y ∷ right) is apart = grind (arith, parted)
