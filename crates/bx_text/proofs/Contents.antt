-- Nodes, and rows of nodes, with the same content.
use Rattle.std.proofs.Common.{◌≡◌, ℕ, zero, suc, ◌+◌, ◌*◌, ℤ, true, false, ◌↔◌, ◌≤◌, ◌<◌, List, [], ◌∷◌, length, get_or, drop, refl, sym, ap, subst, ◌∙◌, arith}
use Rattle.std.proofs.lemmas.List.{drop_more}
use Rattle.bx_text.specs.declared.node.Span.{Span}
use Rattle.bx_text.specs.declared.node.Form.{Form, TheVariants.Integer, TheVariants.Large}
use Rattle.bx_text.specs.Form.{form_tree, IsForm}
use Rattle.bx_text.specs.Falls.{tail_le}
use Rattle.bx_text.specs.Number.{number, is_large}
use Rattle.bx_text.specs.Tree.{Tree, integer, atom, tuple, list, other, cons, nil, chain, nodes, IsEnd}

-- an element that was read is the first of what is left
pub row_at : (xs : List Tree) (i : ℕ) (x : Tree) → i < length xs → x ≡ get_or xs i x → drop i xs ≡ x ∷ drop (i + 1) xs
row_at xs i x here is = drop_more xs i x here ∙ ap (λ y. y ∷ drop (i + 1) xs) (sym is)

nodes_in : (xs : List Tree) (i : ℕ) (d : Tree) → i < length xs → nodes (get_or xs i d) < nodes (chain xs nil)
nodes_in [] i d here = absurd (omega arith)
nodes_in (x ∷ xs) zero d here = omega arith
nodes_in (x ∷ xs) (suc i) d here = omega (arith, nodes_in xs i d (omega arith))

-- an element has fewer nodes than its row
pub nodes_at : (xs : List Tree) (i : ℕ) (x : Tree) → i < length xs → x ≡ get_or xs i x → nodes x < nodes (chain xs nil)
nodes_at xs i x here is = omega (arith, ap nodes is, nodes_in xs i x here)

nodes_some : (u : Tree) → 1 ≤ nodes u
nodes_some (integer s n) = omega arith
nodes_some (atom s w) = omega arith
nodes_some (tuple s t) = omega arith
nodes_some (list s t) = omega arith
nodes_some (other s k w) = omega arith
nodes_some nil = omega arith
nodes_some (cons t u) = omega arith

-- a row has no more nodes than the row with a tail
pub nodes_tailed : (xs : List Tree) (u : Tree) → nodes (chain xs nil) ≤ nodes (chain xs u)
nodes_tailed [] u = nodes_some u
nodes_tailed (x ∷ xs) u = omega (arith, nodes_tailed xs u)

-- a row and its end are parted in one way
pub parted : (xs ys : List Tree) (u v : Tree) → IsEnd u → IsEnd v → chain xs u ≡ chain ys v → (xs ≡ ys) × (u ≡ v)
parted [] [] u v p q e = (refl, e)
parted [] (y ∷ ys) u v p q e = absurd (subst IsEnd e p)
parted (x ∷ xs) [] u v p q e = absurd (subst IsEnd (sym e) q)
parted (x ∷ xs) (y ∷ ys) u v p q e =
    let first : x ≡ y = cc in
    let left : chain xs u ≡ chain ys v = cc in
    let rest = parted xs ys u v p q left in
    let ends = rest.1 in
    let others = rest.0 in
    (cc, ends)

-- a kept number is no other node's
pub unlike_integer : (s t : Span) (n : ℤ) (f g : Form) → f ≡ Integer n → IsForm f → IsForm g → ((m : ℤ) → g ≡ Integer m → ⊥) → form_tree s f ≡ form_tree t g → ⊥
unlike_integer s t n f g e p q unlike same = by_form g q unlike (sym (ap (form_tree s) e) ∙ same)
  where
    small : is_large n ≡ false
    small = subst IsForm e p

    by_form : (g : Form) → IsForm g → ((m : ℤ) → g ≡ Integer m → ⊥) → form_tree s (Integer n) ≡ form_tree t g → ⊥
    by_form (Integer m) q unlike same = unlike m refl
    by_form (Large w) q unlike same = let number_is : n ≡ number w = cc in let both = small in cc
    by_form s q unlike same = cc

-- nor is a kept text's number
pub unlike_large : (s t : Span) (v : List ℕ) (f g : Form) → f ≡ Large v → IsForm f → IsForm g → ((w : List ℕ) → g ≡ Large w → ⊥) → form_tree s f ≡ form_tree t g → ⊥
unlike_large s t v f g e p q unlike same = by_form g q unlike (sym (ap (form_tree s) e) ∙ same)
  where
    large : is_large (number v) ≡ true
    large = (subst IsForm e p).0

    by_form : (g : Form) → IsForm g → ((w : List ℕ) → g ≡ Large w → ⊥) → form_tree s (Large v) ≡ form_tree t g → ⊥
    by_form (Integer m) q unlike same = let number_is : number v ≡ m = cc in let both = large in cc
    by_form (Large w) q unlike same = unlike w refl
    by_form s q unlike same = cc

-- tuples are as their rows, where the rows were told apart
pub tuples_told : {T : Type 0} (s t : Span) (xs ys vs ws : List Tree) (x y : Tree) → s ≡ t → tuple s (chain xs nil) ≡ x
    → tuple t (chain ys nil) ≡ y → vs ≡ xs → ws ≡ ys → (T ↔ (vs ≡ ws)) → T ↔ (x ≡ y)
tuples_told s t xs ys vs ws x y at mine others first second told =
    (λ e. let same : vs ≡ ws = told.0 e in cc, λ e. let rows : chain xs nil ≡ chain ys nil = cc in told.1 (first ∙ (parted xs ys nil nil tt tt rows).0 ∙ sym second))

-- and so are lists with one tail
pub lists_told : {T : Type 0} (s t : Span) (xs ys vs ws : List Tree) (u v x y : Tree) → s ≡ t → list s (chain xs u) ≡ x → list t (chain ys v) ≡ y
    → IsEnd u → IsEnd v → u ≡ v → vs ≡ xs → ws ≡ ys → (T ↔ (vs ≡ ws)) → T ↔ (x ≡ y)
lists_told s t xs ys vs ws u v x y at mine others p q end first second told =
    (λ e. let same : vs ≡ ws = told.0 e in cc, λ e. let rows : chain xs u ≡ chain ys v = cc in told.1 (first ∙ (parted xs ys u v p q rows).0 ∙ sym second))

-- the same lists have one tail
pub same_ends : (s t : Span) (xs ys : List Tree) (u v x y : Tree) → list s (chain xs u) ≡ x → list t (chain ys v) ≡ y → IsEnd u → IsEnd v → x ≡ y → u ≡ v
same_ends s t xs ys u v x y mine others p q e = let rows : chain xs u ≡ chain ys v = cc in (parted xs ys u v p q rows).1

-- a list's tail and its elements are smaller than the list
pub tail_falls : (s : Span) (xs : List Tree) (u x : Tree) → list s (chain xs u) ≡ x → 2 * nodes u + 1 < 2 * nodes x
tail_falls s xs u x e = omega (arith, ap nodes e, tail_le xs u)

pub elements_fall : (s : Span) (xs : List Tree) (u x : Tree) → list s (chain xs u) ≡ x → 2 * nodes (chain xs nil) < 2 * nodes x
elements_fall s xs u x e = omega (arith, ap nodes e, nodes_tailed xs u)
