-- Texts without a mark, and where a text is cut.
use Rattle.bx_plan.proofs.Words.{◌≡◌, ℕ, false, List, [], ◌∷◌, ◌++◌, Option, Some, None, refl, ap, option_map, subst, nat_eq, cond_both, eqb-true, eq-eqb, same_Some, cut, parts_of, rules}
use Rattle.bx_plan.proofs.Cuts.{parts_none, parts_some}

-- what comes of an option by a function
pub option_map_some : {A B P : Type 0} (f : A → B) (o : Option A) (y : B) → option_map f o ≡ Some y → ((x : A) → o ≡ Some x → f x ≡ y → P) → P
option_map_some f None y h k = cc
option_map_some f (Some x) y h k = k x refl (same_Some (f x) y h)

-- no byte of the text is the mark
abbrev pub Lacks : ℕ → List ℕ → Type 0
Lacks mark [] = Unit {0}
Lacks mark (b ∷ bs) = (nat_eq b mark ≡ false) × Lacks mark bs

pub Lacks-append : (mark : ℕ) (xs ys : List ℕ) → Lacks mark xs → Lacks mark ys → Lacks mark (xs ++ ys)
Lacks-append mark [] ys h k = k
Lacks-append mark (x ∷ xs) ys h k = (h.0, Lacks-append mark xs ys h.1 k)

pub cut_lacks : (mark : ℕ) (text : List ℕ) → Lacks mark text → cut mark text ≡ None
cut_lacks mark [] h = refl
cut_lacks mark (b ∷ bs) h = search (rules, cut_lacks mark bs h.1)

pub cut_at : (mark : ℕ) (before behind : List ℕ) → Lacks mark before → cut mark (before ++ mark ∷ behind) ≡ Some (before, behind)
cut_at mark [] behind h = search (rules, eq-eqb)
cut_at mark (b ∷ bs) behind h = search (rules, cut_at mark bs behind h.1)

-- the text is so, where it is cut so
abbrev pub CutAt : ℕ → List ℕ → List ℕ × List ℕ → Type 0
CutAt mark text parts = (text ≡ parts.0 ++ mark ∷ parts.1) × Lacks mark parts.0

pub cut_takes : (mark : ℕ) (text : List ℕ) (parts : List ℕ × List ℕ) → cut mark text ≡ Some parts → CutAt mark text parts
cut_takes mark [] parts h = cc
cut_takes mark (b ∷ bs) parts h =
    let with_first : List ℕ × List ℕ → List ℕ × List ℕ = λ p. (b ∷ p.0, p.1) in
    cond_both (nat_eq b mark) (Some ([], bs)) (option_map with_first (cut mark bs)) (λ r. r ≡ Some parts → CutAt mark (b ∷ bs) parts)
    (λ t r. subst (CutAt mark (b ∷ bs)) (same_Some ([], bs) parts r) (ap (λ x. x ∷ bs) (eqb-true b mark t), tt))
    (λ f r. option_map_some with_first (cut mark bs) parts r (λ more q e. let before = cut_takes mark bs more q in subst (CutAt mark (b ∷ bs)) e (ap (λ x. b ∷ x) before.0, (f, before.1)))) h

pub parts_lacks : (mark : ℕ) (text : List ℕ) → Lacks mark text → parts_of mark text ≡ text ∷ []
parts_lacks mark text h = parts_none mark text (cut_lacks mark text h)

pub parts_at : (mark : ℕ) (before behind : List ℕ) → Lacks mark before → parts_of mark (before ++ mark ∷ behind) ≡ before ∷ parts_of mark behind
parts_at mark before behind h = parts_some mark (before ++ mark ∷ behind) before behind (cut_at mark before behind h)
