-- Kinds of terms, and truth values.
-- Source: Erlang Reference Manual, "Data Types"; "Expressions", "Boolean Expressions".
use Rattle.std.specs.Prelude.{Bool, true, false, ◌==◌, Option, Some, None, is_some, if◌then◌else◌}
use Rattle.bx_terms.specs.declared.atom_table.AtomId.{AtomId}
use Rattle.bx_terms.specs.declared.fixed.TheConstants.{TRUE, FALSE}
use Rattle.bx_terms.specs.Tree.{Tree, int, atom, pid, tuple, nil, cons}

abbrev pub is_integer : Tree → Bool
is_integer (int n) = true
is_integer t = false

abbrev pub is_atom : Tree → Bool
is_atom (atom a) = true
is_atom t = false

-- one atom alone
abbrev pub is_the_atom : AtomId → Tree → Bool
is_the_atom a (atom b) = b == a.0
is_the_atom a t = false

abbrev pub is_pid : Tree → Bool
is_pid (pid p) = true
is_pid t = false

abbrev pub is_tuple : Tree → Bool
is_tuple (tuple t) = true
is_tuple t = false

-- also an improper one, whose last tail is no list
abbrev pub is_list : Tree → Bool
is_list nil = true
is_list (cons t u) = true
is_list t = false

-- the atoms `true` and `false`
abbrev pub truth : Tree → Option Bool
truth (atom a) = if a == TRUE.0 then Some true else (if a == FALSE.0 then Some false else None)
truth t = None

abbrev pub is_boolean : Tree → Bool
is_boolean t = is_some (truth t)
