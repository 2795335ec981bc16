-- The atoms that every table holds from the start, in the order of their numbers, from 0.
use Rattle.std.specs.Prelude.{ℕ, List, [], ◌∷◌, ◌++◌, codes, slice_get, Some, ◌≡◌}
use Rattle.bx_terms.specs.declared.atom_table.AtomId.{AtomId}

-- truth values, reasons of faults and exits, and the words of processes
abbrev pub reserved_atoms : List (List ℕ)
reserved_atoms =
    codes "true" ∷ codes "false" ∷ codes "normal" ∷ codes "kill" ∷ codes "killed" ∷ codes "noproc"
    ∷ codes "error" ∷ codes "exit" ∷ codes "throw" ∷ codes "nocatch"
    ∷ codes "function_clause" ∷ codes "badmatch" ∷ codes "case_clause" ∷ codes "if_clause" ∷ codes "try_clause"
    ∷ codes "undef" ∷ codes "badarith" ∷ codes "badarg" ∷ codes "system_limit"
    ∷ codes "timeout_value" ∷ codes "infinity" ∷ codes "trap_exit" ∷ codes "erlang" ∷ codes "EXIT" ∷ []

-- the guard BIFs of `erlang`
abbrev pub guard_atoms : List (List ℕ)
guard_atoms =
    codes "self"
    ∷ codes "+" ∷ codes "-" ∷ codes "*" ∷ codes "div" ∷ codes "rem"
    ∷ codes "band" ∷ codes "bor" ∷ codes "bxor" ∷ codes "bsl" ∷ codes "bsr" ∷ codes "bnot" ∷ codes "abs"
    ∷ codes "==" ∷ codes "/=" ∷ codes "=:=" ∷ codes "=/=" ∷ codes "<" ∷ codes ">" ∷ codes "=<" ∷ codes ">="
    ∷ codes "min" ∷ codes "max"
    ∷ codes "not" ∷ codes "and" ∷ codes "or" ∷ codes "xor"
    ∷ codes "hd" ∷ codes "tl" ∷ codes "length" ∷ codes "tuple_size" ∷ codes "size" ∷ codes "element"
    ∷ codes "is_atom" ∷ codes "is_boolean" ∷ codes "is_integer" ∷ codes "is_list" ∷ codes "is_number"
    ∷ codes "is_pid" ∷ codes "is_tuple" ∷ codes "is_float" ∷ codes "is_binary" ∷ codes "is_reference"
    ∷ codes "is_port" ∷ []

-- its other functions, but for `exit`, `throw` and `error`, which stand above
abbrev pub native_atoms : List (List ℕ)
native_atoms =
    codes "spawn" ∷ codes "spawn_link" ∷ codes "link" ∷ codes "unlink" ∷ codes "process_flag"
    ∷ codes "send" ∷ codes "!" ∷ codes "display" ∷ codes "++" ∷ codes "setelement"
    ∷ codes "list_to_tuple" ∷ codes "tuple_to_list" ∷ []

unfoldable pub fixed_atoms : List (List ℕ)
fixed_atoms = reserved_atoms ++ guard_atoms ++ native_atoms

-- the fixed atom with this number has this text
abbrev pub Spells : AtomId → List ℕ → Type 0
Spells atom text = slice_get fixed_atoms atom.0 ≡ Some text
