-- What a term's parts come to, over the list of its elements.
use Rattle.bx_terms.proofs.Words.{◌≡◌, ℕ, ◌+◌, ◌<◌, max, List, [], ◌∷◌, ◌++◌, length, map, fold, codes, refl, ap, ◌∙◌, arith, Less, Equal, nat_cmp}
use Rattle.bx_terms.proofs.Words.{ordering_then, slice_cmp, join_by, flat_map, nat_tests, Tree, tuple, listed, height, highest, order_of, size, printed}
use Rattle.bx_terms.proofs.Words.{printed_tail}
use Rattle.bx_terms.proofs.Rows.{size_listed}

-- the highest so far and of those that follow
highest_from : (h : ℕ) (ts : List Tree) → fold max h (map height ts) ≡ max h (highest (listed ts))
highest_from h [] = omega arith
highest_from h (t ∷ ts) = omega (arith, highest_from (max h (height t)) ts)

pub tuple_height : (ts : List Tree) → height (tuple (listed ts)) ≡ 1 + fold max 0 (map height ts)
tuple_height ts = omega (arith, highest_from 0 ts)

pub list_order : (texts : List (List ℕ)) (ts us : List Tree) → order_of texts (listed ts) (listed us) ≡ slice_cmp (order_of texts) ts us
list_order texts [] [] = refl
list_order texts (t ∷ ts) (u ∷ us) = ap (ordering_then (order_of texts t u)) (list_order texts ts us)
list_order texts _ _ = refl

tuple_order : (texts : List (List ℕ)) (ts us : List Tree) → order_of texts (tuple (listed ts)) (tuple (listed us)) ≡ ordering_then (nat_cmp (length ts) (length us)) (slice_cmp (order_of texts) ts us)
tuple_order texts ts us = rw (size_listed ts, size_listed us, list_order texts ts us)

pub smaller_tuple : (texts : List (List ℕ)) (ts us : List Tree) → length ts < length us → order_of texts (tuple (listed ts)) (tuple (listed us)) ≡ Less
smaller_tuple texts ts us h = let e : nat_cmp (length ts) (length us) ≡ Less = grind (arith, nat_tests) in tuple_order texts ts us ∙ ap (λ o. ordering_then o (slice_cmp (order_of texts) ts us)) e

pub as_large_tuple : (texts : List (List ℕ)) (ts us : List Tree) → length ts ≡ length us → order_of texts (tuple (listed ts)) (tuple (listed us)) ≡ slice_cmp (order_of texts) ts us
as_large_tuple texts ts us h = let e : nat_cmp (length ts) (length us) ≡ Equal = grind (arith, nat_tests) in tuple_order texts ts us ∙ ap (λ o. ordering_then o (slice_cmp (order_of texts) ts us)) e

-- every element after a comma
tail_text : (texts : List (List ℕ)) (ts : List Tree) → printed_tail texts (listed ts) ≡ flat_map (λ t. codes "," ++ printed texts t) ts
tail_text texts [] = refl
tail_text texts (t ∷ ts) = ap (λ rest. codes "," ++ printed texts t ++ rest) (tail_text texts ts)

pub tuple_text : (texts : List (List ℕ)) (ts : List Tree) → printed texts (tuple (listed ts)) ≡ codes "{" ++ join_by (printed texts) (codes ",") ts ++ codes "}"
tuple_text texts [] = refl
tuple_text texts (t ∷ ts) = ap (λ rest. codes "{" ++ (printed texts t ++ rest) ++ codes "}") (tail_text texts ts)

pub list_text : (texts : List (List ℕ)) (ts : List Tree) → printed texts (listed ts) ≡ codes "[" ++ join_by (printed texts) (codes ",") ts ++ codes "]"
list_text texts [] = refl
list_text texts (t ∷ ts) = ap (λ rest. codes "[" ++ (printed texts t ++ rest) ++ codes "]") (tail_text texts ts)
