-- The test of sameness holds exactly where two terms are equal.
use Rattle.std.proofs.Common.{◌≡◌, true, refl, ap, sym, ◌∙◌}
use Rattle.std.specs.Bool.{Decides}
use Rattle.std.specs.Cmp.{IsEquivalence, IsPartialEquivalence, partial_equiv_from_equiv, decided}
use Rattle.std.proofs.lemmas.Bool.{and_from, and_parts}
use Rattle.std.proofs.lemmas.Bool.Decides.{Decides-int_eq, Decides-eqb}
use Rattle.bx_terms.specs.Tree.{Tree, int, atom, pid, tuple, nil, cons}
use Rattle.bx_terms.specs.Same.{same_tree}

pub same_itself : (t : Tree) → same_tree t t ≡ true
same_itself (int n) = (Decides-int_eq n n).1 refl
same_itself (atom a) = (Decides-eqb a a).1 refl
same_itself (pid p) = (Decides-eqb p p).1 refl
same_itself (tuple t) = same_itself t
same_itself nil = refl
same_itself (cons t u) = and_from _ _ (same_itself t) (same_itself u)

pub same_to_equal : (t u : Tree) → same_tree t u ≡ true → t ≡ u
same_to_equal (int m) (int n) e = ap int ((Decides-int_eq m n).0 e)
same_to_equal (atom a) (atom b) e = ap atom ((Decides-eqb a b).0 e)
same_to_equal (pid p) (pid q) e = ap pid ((Decides-eqb p q).0 e)
same_to_equal (tuple t) (tuple u) e = ap tuple (same_to_equal t u e)
same_to_equal nil nil e = refl
same_to_equal (cons t u) (cons v w) e =
    let parts = and_parts (same_tree t v) (same_tree u w) e in
    let head = same_to_equal t v parts.0 in
    let tail = same_to_equal u w parts.1 in
    cc
same_to_equal t u e = cc

pub same_decides : (t u : Tree) → Decides (same_tree t u) (t ≡ u)
same_decides t u = (same_to_equal t u, λ e. ap (same_tree t) (sym e) ∙ same_itself t)

pub same_equivalence : IsEquivalence same_tree
same_equivalence = decided same_tree same_decides

pub same_partial_equivalence : IsPartialEquivalence same_tree
same_partial_equivalence = partial_equiv_from_equiv same_equivalence
