-- The text of a term, without spaces, and never as a string.
-- Source: Erlang Reference Manual, "Data Types"; pids as the shell prints those of its own node.
use Rattle.std.specs.Prelude.{ℕ, List, [], ◌++◌, Option, Some, None, codes, decimal, slice_get}
use Rattle.std.specs.Fmt.{signed_decimal}
use Rattle.bx_terms.specs.Tree.{Tree, int, atom, pid, tuple, nil, cons}
use Rattle.bx_terms.specs.AtomText.{printed_atom}

-- an atom that the table lacks is a question mark
abbrev pub printed_name : Option (List ℕ) → List ℕ
printed_name (Some text) = printed_atom text
printed_name None = codes "?"

abbrev pub printed_pid : ℕ → List ℕ
printed_pid p = codes "<0." ++ decimal p ++ codes ".0>"

abbrev mutual
  pub printed : List (List ℕ) → Tree → List ℕ
  printed texts (int n) = signed_decimal n
  printed texts (atom a) = printed_name (slice_get texts a)
  printed texts (pid p) = printed_pid p
  printed texts (tuple t) = codes "{" ++ printed_elements texts t ++ codes "}"
  printed texts nil = codes "[]"
  printed texts (cons t u) = codes "[" ++ printed texts t ++ printed_tail texts u ++ codes "]"

  -- what follows a list's first element: the other elements, each after a comma, and what ends an improper list after a bar
  pub printed_tail : List (List ℕ) → Tree → List ℕ
  printed_tail texts (cons t u) = codes "," ++ printed texts t ++ printed_tail texts u
  printed_tail texts nil = []
  printed_tail texts (int n) = codes "|" ++ signed_decimal n
  printed_tail texts (atom a) = codes "|" ++ printed_name (slice_get texts a)
  printed_tail texts (pid p) = codes "|" ++ printed_pid p
  printed_tail texts (tuple t) = codes "|{" ++ printed_elements texts t ++ codes "}"

  -- a tuple's elements, with commas between them
  pub printed_elements : List (List ℕ) → Tree → List ℕ
  printed_elements texts (cons t u) = printed texts t ++ printed_tail texts u
  printed_elements texts nil = []
  printed_elements texts (int n) = []
  printed_elements texts (atom a) = []
  printed_elements texts (pid p) = []
  printed_elements texts (tuple t) = []
