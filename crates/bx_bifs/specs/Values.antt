-- What the natives give that concern their caller alone. No term is higher than 10,000.
-- Source: module `erlang` of the ERTS Reference Manual: `list_to_tuple/1`, `setelement/3`, `tuple_to_list/1`; Erlang Reference
-- Manual, "Expressions", for `++`.
use Rattle.std.specs.Prelude.{suc, ℤ, pos, List, [], ◌∷◌, length, Option, Some, None, nat_le, nat_lt, if◌then◌else◌, option_map, slice_set}
use Rattle.bx_terms.specs.declared.kinds.Trap.TheVariants.{TermHeight}
use Rattle.bx_terms.specs.Tree.{Tree, int, atom, pid, tuple, nil, cons, listed, height}
use Rattle.bx_bifs.specs.declared.given.Given.{Given, TheVariants.Value, TheVariants.Trap}
use Rattle.bx_bifs.specs.declared.natives.Native.{Native}
use Rattle.bx_bifs.specs.declared.natives.Native.TheVariants as natives
use Rattle.bx_bifs.specs.Given.{badarg, undef}

-- the elements of a proper list
abbrev pub elements : Tree → Option (List Tree)
elements nil = Some []
elements (cons t more) = option_map (λ ts. t ∷ ts) (elements more)
elements (int n) = None
elements (atom a) = None
elements (pid p) = None
elements (tuple t) = None

-- a term that is built, or the trap where it would be too high
abbrev pub built : Tree → Given
built t = if nat_le (height t) 10000 then Value t else Trap TermHeight

abbrev pub of_elements : (List Tree → Given) → Option (List Tree) → Given
of_elements value (Some ts) = value ts
of_elements value None = badarg

-- these elements, and then the rest
abbrev pub ahead : List Tree → Tree → Tree
ahead [] rest = rest
ahead (t ∷ ts) rest = cons t (ahead ts rest)

-- `++`: a proper list before any term
abbrev pub appended : Tree → Tree → Given
appended list rest = of_elements (λ ts. built (ahead ts rest)) (elements list)

-- `list_to_tuple`: a proper list
abbrev pub tupled : Tree → Given
tupled list = of_elements (λ ts. built (tuple (listed ts))) (elements list)

-- `tuple_to_list`: a tuple
abbrev pub untupled : Tree → Given
untupled (tuple t) = of_elements (λ ts. built (ahead ts nil)) (elements t)
untupled t = badarg

-- one element in the place of another; places count from 1
abbrev pub put_at : ℤ → Tree → List Tree → Given
put_at (pos (suc n)) t ts = if nat_lt n (length ts) then built (tuple (listed (slice_set ts n t))) else badarg
put_at place t ts = badarg

-- `setelement`: a place, a tuple and any term
abbrev pub with_element : Tree → Tree → Tree → Given
with_element (int place) (tuple t) new = of_elements (put_at place new) (elements t)
with_element place t new = badarg

-- a native on its arguments; another number of them than its own is no such function
unfoldable pub native_value : Native → List Tree → Given
native_value natives.Append (list ∷ rest ∷ []) = appended list rest
native_value natives.SetElement (place ∷ t ∷ new ∷ []) = with_element place t new
native_value natives.ListToTuple (list ∷ []) = tupled list
native_value natives.TupleToList (t ∷ []) = untupled t
native_value native arguments = undef
