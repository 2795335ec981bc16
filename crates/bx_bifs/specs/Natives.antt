-- The natives: functions of module `erlang` that a call of an external function runs, and that are no guard BIFs.
-- Source: module `erlang` of the ERTS Reference Manual; `!` and `++` are the operators of the Erlang Reference Manual.
use Rattle.std.specs.Prelude.{ℕ, List, [], ◌∷◌, ◌&&◌, ◌==◌, Option, None, codes, bytes_eq, find, option_map, option_and_then, slice_get, if◌then◌else◌}
use Prim.Native.String.{String}
use Rattle.bx_terms.specs.declared.atom_table.AtomId.{AtomId}
use Rattle.bx_terms.specs.declared.fixed.TheConstants.{SPAWN, SPAWN_LINK, LINK, UNLINK, EXIT, THROW, ERROR, PROCESS_FLAG, SEND, BANG, DISPLAY, APPEND, SETELEMENT, LIST_TO_TUPLE, TUPLE_TO_LIST}
use Rattle.bx_bifs.specs.declared.natives.Native.{Native}
use Rattle.bx_bifs.specs.declared.natives.Native.TheVariants.{Spawn, SpawnLink, Link, Unlink, Exit, Throw, Error, ExitSignal, ProcessFlag, Send, Display, Append, SetElement, ListToTuple, TupleToList}
use Rattle.bx_bifs.specs.Names.{has_text}

-- a name with an arity, the fixed atom that spells the name, and what it calls
pub record NativeRow : Type 0 where
  pub atom : AtomId
  pub name : List ℕ
  pub arity : ℕ
  pub native : Native

abbrev pub row : AtomId → String → ℕ → Native → NativeRow
row atom name arity native = record { atom = atom; name = codes name; arity = arity; native = native }

-- the table; `send` and `!` are one native
abbrev pub native_rows : List NativeRow
native_rows =
    row SPAWN "spawn" 3 Spawn
    ∷ row SPAWN_LINK "spawn_link" 3 SpawnLink
    ∷ row LINK "link" 1 Link
    ∷ row UNLINK "unlink" 1 Unlink
    ∷ row EXIT "exit" 1 Exit
    ∷ row THROW "throw" 1 Throw
    ∷ row ERROR "error" 1 Error
    ∷ row EXIT "exit" 2 ExitSignal
    ∷ row PROCESS_FLAG "process_flag" 2 ProcessFlag
    ∷ row SEND "send" 2 Send
    ∷ row BANG "!" 2 Send
    ∷ row DISPLAY "display" 1 Display
    ∷ row APPEND "++" 2 Append
    ∷ row SETELEMENT "setelement" 3 SetElement
    ∷ row LIST_TO_TUPLE "list_to_tuple" 1 ListToTuple
    ∷ row TUPLE_TO_LIST "tuple_to_list" 1 TupleToList
    ∷ []

-- the native of a name and an arity
unfoldable pub native_named : List ℕ → ℕ → Option Native
native_named name arity = option_map (λ r. r.native) (find (λ r. (r.arity == arity) && bytes_eq r.name name) native_rows)

-- the native that a call names: its module's text is `erlang`, and the table has its function's text and its arity
unfoldable pub native_of : List (List ℕ) → AtomId → AtomId → ℕ → Option Native
native_of texts home function arity =
    if has_text texts home (codes "erlang") then option_and_then (λ name. native_named name arity) (slice_get texts function.0) else None

-- the native of a fixed atom and an arity
unfoldable pub native_numbered : AtomId → ℕ → Option Native
native_numbered function arity = option_map (λ r. r.native) (find (λ r. (r.arity == arity) && (r.atom.0 == function.0)) native_rows)
