-- The order of terms.
-- Source: Erlang Reference Manual, "Expressions", "Term Comparisons"; pids by number.
use Rattle.std.specs.Prelude.{ℕ, ◌+◌, List, Option, Some, None, option_map, slice_get, chars}
use Rattle.std.specs.declared.cmp.Ordering.{Ordering, TheVariants.Less, TheVariants.Greater}
use Rattle.std.specs.Ordering.{nat_cmp, int_cmp, ordering_then}
use Rattle.std.specs.Cmp.Lexicographic.{slice_cmp}
use Rattle.bx_terms.specs.Tree.{Tree, int, atom, pid, tuple, nil, cons}

-- integers come before atoms, then pids, tuples, the empty list and list cells
abbrev pub kind_order : Tree → ℕ
kind_order (int n) = 0
kind_order (atom a) = 1
kind_order (pid p) = 2
kind_order (tuple t) = 3
kind_order nil = 4
kind_order (cons t u) = 5

-- the number of elements of a tuple, which holds them as a list
abbrev pub size : Tree → ℕ
size (cons t u) = 1 + size u
size t = 0

-- the character codes of an atom's text, or none where the table lacks it; texts are kept in UTF-8
abbrev pub codes_of : List (List ℕ) → ℕ → Option (List ℕ)
codes_of texts a = option_map chars (slice_get texts a)

-- atoms by their texts, character code by character code; one that the table lacks comes after all others, by number
abbrev pub text_order : ℕ → ℕ → Option (List ℕ) → Option (List ℕ) → Ordering
text_order a b (Some s) (Some t) = slice_cmp nat_cmp s t
text_order a b (Some s) None = Less
text_order a b None (Some t) = Greater
text_order a b None None = nat_cmp a b

abbrev pub atom_order : List (List ℕ) → ℕ → ℕ → Ordering
atom_order texts a b = text_order a b (codes_of texts a) (codes_of texts b)

-- integers and pids by number, tuples by size and then by elements from the first, lists by head and then by tail
abbrev pub order_of : List (List ℕ) → Tree → Tree → Ordering
order_of texts (int m) (int n) = int_cmp m n
order_of texts (atom a) (atom b) = atom_order texts a b
order_of texts (pid p) (pid q) = nat_cmp p q
order_of texts (tuple t) (tuple u) = ordering_then (nat_cmp (size t) (size u)) (order_of texts t u)
order_of texts (cons t u) (cons v w) = ordering_then (order_of texts t v) (order_of texts u w)
order_of texts t u = nat_cmp (kind_order t) (kind_order u)
