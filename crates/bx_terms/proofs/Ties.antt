-- Only equal terms are equal in the order.
use Rattle.bx_terms.proofs.Words.{◌≡◌, ℕ, ◌↔◌, true, List, Option, Some, None, option_map, slice_get, refl, ap, sym, ◌∙◌, arith, Ordering, Less, Equal, Greater}
use Rattle.bx_terms.proofs.Words.{nat_cmp, ordering_then, is_eq, IsUtf8, tied_itself, nat_tests, Decides-int_eq, slice_get_within, get_or_from_slice_get}
use Rattle.bx_terms.proofs.Words.{IsUtf8-from_is_utf8, IsAtomTable, Tree, int, pid, tuple, nil, cons, order_of, text_order, size}
use Rattle.std.proofs.Common.{chars}
use Rattle.std.specs.FinMap.{slice_cmp-IsAntisymmetric, nat_cmp-IsAntisymmetric}
use Rattle.bx_terms.specs.Tree.{atom}
use Rattle.bx_terms.proofs.AtomLaws.{distinct}
use Rattle.bx_terms.proofs.Total.{order_of_total}
use Rattle.bx_terms.proofs.Utf8.{bytes_by_codes}

text_utf8 : (texts : List (List ℕ)) (a : ℕ) (s : List ℕ) → IsAtomTable texts → slice_get texts a ≡ Some s → IsUtf8 s
text_utf8 texts a s table e = IsUtf8-from_is_utf8 s (rw (get_or_from_slice_get texts a s s e) at (table.utf8 a s (slice_get_within texts a s e)))

tied_texts : (texts : List (List ℕ)) → IsAtomTable texts → (a b : ℕ) (s t : Option (List ℕ)) → slice_get texts a ≡ s → slice_get texts b ≡ t → text_order a b (option_map chars s) (option_map chars t) ≡ Equal → a ≡ b
tied_texts texts table a b (Some s) (Some t) p q e =
    let same = slice_cmp-IsAntisymmetric nat_cmp-IsAntisymmetric s t (bytes_by_codes s t (text_utf8 texts a s table p) (text_utf8 texts b t table q) ∙ e) in
    distinct texts table.distinct s a b p (q ∙ ap Some (sym same))
tied_texts texts table a b None None p q e = grind (arith, nat_tests)
tied_texts texts table a b _ _ p q e = cc

tied_parts : (o p : Ordering) → ordering_then o p ≡ Equal → (o ≡ Equal) × (p ≡ Equal)
tied_parts Equal p e = (refl, e)
tied_parts _ p e = cc

tied_terms : (texts : List (List ℕ)) → IsAtomTable texts → (t u : Tree) → order_of texts t u ≡ Equal → t ≡ u
tied_terms texts table (int m) (int n) e = ap int ((Decides-int_eq m n).0 (ap is_eq e))
tied_terms texts table (atom a) (atom b) e = ap atom (tied_texts texts table a b _ _ refl refl e)
tied_terms texts table (pid p) (pid q) e = let same : p ≡ q = grind (arith, nat_tests) in ap pid same
tied_terms texts table (tuple t) (tuple u) e = ap tuple (tied_terms texts table t u (tied_parts (nat_cmp (size t) (size u)) (order_of texts t u) e).1)
tied_terms texts table nil nil e = refl
tied_terms texts table (cons t u) (cons v w) e =
    let parts = tied_parts (order_of texts t v) (order_of texts u w) e in
    let heads = tied_terms texts table t v parts.0 in
    let tails = tied_terms texts table u w parts.1 in
    cc
tied_terms texts table t u e = cc

pub only_equal_tied : (texts : List (List ℕ)) → IsAtomTable texts → (t u : Tree) → (order_of texts t u ≡ Equal) ↔ (t ≡ u)
only_equal_tied texts table t u = (tied_terms texts table t u, λ e. ap (order_of texts t) (sym e) ∙ tied_itself (order_of_total texts) t)
