-- The order of terms is total: it is the order of their keys, read one after another.
use Rattle.bx_terms.proofs.Words.{◌≡◌, ℕ, ℤ, pos, List, [], ◌∷◌, ◌++◌, Option, Some, None, refl, ap, sym, ◌∙◌, append_assoc, append-nil, Ordering, Less, Equal}
use Rattle.bx_terms.proofs.Words.{Greater, nat_cmp, int_cmp, ordering_then, ordering_reverse, on, then_cmp, slice_cmp, nat_cmp_total, int_cmp_total}
use Rattle.bx_terms.proofs.Words.{nat_list_cmp_total, on_total, then_total, lists_total, tied_itself, Tree, int, pid, tuple, nil, cons, codes_of, order_of}
use Rattle.bx_terms.proofs.Words.{atom_order, text_order, size}
use Rattle.std.specs.Cmp.{IsTotalOrder}
use Rattle.bx_terms.specs.Tree.{atom}

-- an order that answers as a total one does is total
pub total_as : {K : Type 0} {R S : K → K → Ordering} → ((x y : K) → R x y ≡ S x y) → IsTotalOrder S → IsTotalOrder R
total_as same o = record {
  antisymm = λ x y. same x y ∙ o.antisymm x y ∙ ap ordering_reverse (sym (same y x));
  trans = λ x y z p q. same x z ∙ o.trans x y z (sym (same x y) ∙ p) (sym (same y z) ∙ q);
  congr = λ x y z p. same x z ∙ o.congr x y z (sym (same x y) ∙ p) ∙ sym (same y z);
}

-- atoms: whether the table lacks it, its text, its number where the table lacks it
abbrev lacks : Option (List ℕ) → ℕ
lacks (Some s) = 0
lacks None = 1

abbrev text_or_none : Option (List ℕ) → List ℕ
text_or_none (Some s) = s
text_or_none None = []

abbrev number_past : ℕ → Option (List ℕ) → ℕ
number_past a (Some s) = 0
number_past a None = a

then_equal : (o : Ordering) → ordering_then o Equal ≡ o
then_equal Less = refl
then_equal _ = refl

text_order-keys : (a b : ℕ) (s t : Option (List ℕ)) → text_order a b s t ≡ ordering_then (nat_cmp (lacks s) (lacks t)) (ordering_then (slice_cmp nat_cmp (text_or_none s) (text_or_none t)) (nat_cmp (number_past a s) (number_past b t)))
text_order-keys a b (Some s) (Some t) = sym (then_equal (slice_cmp nat_cmp s t))
text_order-keys a b (Some s) None = refl
text_order-keys a b None (Some t) = refl
text_order-keys a b None None = refl

pub atom_order_total : (texts : List (List ℕ)) → IsTotalOrder (atom_order texts)
atom_order_total texts = total_as (λ a b. text_order-keys a b (codes_of texts a) (codes_of texts b)) (then_total (on_total (λ a. lacks (codes_of texts a)) nat_cmp_total) (then_total (on_total (λ a. text_or_none (codes_of texts a)) nat_list_cmp_total) (on_total (λ a. number_past a (codes_of texts a)) nat_cmp_total)))

-- one key: the place of the kind, an integer, an atom if any, and a pid or a size
abbrev Key : Type 0
Key = ℕ × ℤ × List ℕ × ℕ

abbrev key_order : List (List ℕ) → Key → Key → Ordering
key_order texts = then_cmp (on (λ k. k.0) nat_cmp) (then_cmp (on (λ k. k.1) int_cmp) (then_cmp (on (λ k. k.2) (slice_cmp (atom_order texts))) (on (λ k. k.3) nat_cmp)))

key_order_total : (texts : List (List ℕ)) → IsTotalOrder (key_order texts)
key_order_total texts = then_total (on_total (λ k. k.0) nat_cmp_total) (then_total (on_total (λ k. k.1) int_cmp_total) (then_total (on_total (λ k. k.2) (lists_total (atom_order_total texts))) (on_total (λ k. k.3) nat_cmp_total)))

abbrev keys : Tree → List Key
keys (int n) = (0, n, [], 0) ∷ []
keys (atom a) = (1, pos 0, a ∷ [], 0) ∷ []
keys (pid p) = (2, pos 0, [], p) ∷ []
keys (tuple t) = (3, pos 0, [], size t) ∷ keys t
keys nil = (4, pos 0, [], 0) ∷ []
keys (cons t u) = (5, pos 0, [], 0) ∷ keys t ++ keys u

then_assoc : (o p q : Ordering) → ordering_then (ordering_then o p) q ≡ ordering_then o (ordering_then p q)
then_assoc Less p q = refl
then_assoc _ p q = refl

abbrev keys_cmp : List (List ℕ) → List Key → List Key → Ordering
keys_cmp texts = slice_cmp (key_order texts)

-- no term's keys begin with all of another's, so what follows them decides only where the terms are equal
keys-append : (texts : List (List ℕ)) (t u : Tree) (r s : List Key) → keys_cmp texts (keys t ++ r) (keys u ++ s) ≡ ordering_then (order_of texts t u) (keys_cmp texts r s)
keys-append texts (int m) (int n) r s = ap (λ o. ordering_then o (keys_cmp texts r s)) (then_equal (int_cmp m n))
keys-append texts (atom a) (atom b) r s = ap (λ o. ordering_then o (keys_cmp texts r s)) (then_equal (ordering_then (atom_order texts a b) Equal) ∙ then_equal (atom_order texts a b))
keys-append texts (pid p) (pid q) r s = refl
keys-append texts (tuple t) (tuple u) r s =
    ap (ordering_then (nat_cmp (size t) (size u))) (keys-append texts t u r s) ∙ sym (then_assoc (nat_cmp (size t) (size u)) (order_of texts t u) (keys_cmp texts r s))
keys-append texts nil nil r s = refl
keys-append texts (cons t u) (cons v w) r s =
    rw (append_assoc (keys t) (keys u) r, append_assoc (keys v) (keys w) s)
    (keys-append texts t v (keys u ++ r) (keys w ++ s)
    ∙ ap (ordering_then (order_of texts t v)) (keys-append texts u w r s)
    ∙ sym (then_assoc (order_of texts t v) (order_of texts u w) (keys_cmp texts r s)))
keys-append texts t u r s = refl

order_of-keys : (texts : List (List ℕ)) (t u : Tree) → order_of texts t u ≡ keys_cmp texts (keys t) (keys u)
order_of-keys texts t u =
    let e = keys-append texts t u [] [] in
    sym (then_equal (order_of texts t u)) ∙ sym e ∙ ap (λ ks. keys_cmp texts ks (keys u ++ [])) (append-nil (keys t)) ∙ ap (keys_cmp texts (keys t)) (append-nil (keys u))

pub order_of_total : (texts : List (List ℕ)) → IsTotalOrder (order_of texts)
order_of_total texts = total_as (order_of-keys texts) (on_total keys (lists_total (key_order_total texts)))

pub atom_order_itself : (texts : List (List ℕ)) (a : ℕ) → atom_order texts a a ≡ Equal
atom_order_itself texts a = tied_itself (atom_order_total texts) a
