-- Parts and sizes of lists and tuples.
-- Source: module `erlang` of the ERTS Reference Manual: `hd/1`, `tl/1`, `length/1`, `tuple_size/1`, `element/2`.
use Rattle.std.specs.Prelude.{ℕ, zero, suc, ◌+◌, ℤ, pos, Option, Some, None, option_map}
use Rattle.bx_terms.specs.Tree.{Tree, int, tuple, nil, cons}
use Rattle.bx_terms.specs.Order.{size}

abbrev pub head_of : Tree → Option Tree
head_of (cons t u) = Some t
head_of t = None

abbrev pub tail_of : Tree → Option Tree
tail_of (cons t u) = Some u
tail_of t = None

-- the number of elements of a proper list
abbrev pub length_of : Tree → Option ℕ
length_of nil = Some 0
length_of (cons t u) = option_map (λ n. 1 + n) (length_of u)
length_of t = None

abbrev pub size_of : Tree → Option ℕ
size_of (tuple t) = Some (size t)
size_of t = None

-- an element of a list, which is also how a tuple holds its elements; places count from 0
abbrev pub part : Tree → ℕ → Option Tree
part (cons t u) zero = Some t
part (cons t u) (suc place) = part u place
part t place = None

-- places count from 1
abbrev pub part_from_one : Tree → ℤ → Option Tree
part_from_one t (pos (suc place)) = part t place
part_from_one t place = None

abbrev pub element_of : Tree → Tree → Option Tree
element_of (int place) (tuple t) = part_from_one t place
element_of place t = None

-- places count from 0
abbrev pub element_from_zero : ℕ → Tree → Option Tree
element_from_zero place (tuple t) = part t place
element_from_zero place t = None
