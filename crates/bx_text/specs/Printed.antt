-- The text of a term as it is spelled, without spaces, and never as a string. What stands for no value here is printed as it
-- was read.
-- Source: Erlang Reference Manual, "Data Types".
use Rattle.std.specs.Prelude.{ℕ, Bool, ◌==◌, zero, suc, ◌+◌, ◌/◌, ◌%◌, nat_lt, true, false, ℤ, pos, negsuc, List, [], ◌∷◌, ◌++◌, codes}
use Rattle.bx_terms.specs.AtomText.{printed_atom}
use Rattle.bx_text.specs.Tree.{Tree, integer, atom, tuple, list, other, nil, cons}

abbrev pub is_zero : ℕ → Bool
is_zero b = b == 48

-- a minus sign, or none
abbrev pub sign_text : Bool → List ℕ
sign_text true = 45 ∷ []
sign_text false = []

-- the decimal digits of a number, where it has at most k of them
unfoldable pub digits_within : ℕ → ℕ → List ℕ
digits_within zero n = []
digits_within (suc k) n = elim (nat_lt n 10) [ true ↦ (48 + n) ∷ [] | false ↦ digits_within k (n / 10) ++ (48 + n % 10) ∷ [] ]

-- the decimal digits of a number of any size, which has no more digits than one more than it counts
unfoldable pub whole_decimal : ℕ → List ℕ
whole_decimal n = digits_within (suc n) n

unfoldable pub integer_text : ℤ → List ℕ
integer_text (pos n) = whole_decimal n
integer_text (negsuc n) = 45 ∷ whole_decimal (suc n)

abbrev mutual
  pub node_text : Tree → List ℕ
  node_text (integer s n) = integer_text n
  node_text (atom s w) = printed_atom w
  node_text (tuple s t) = codes "{" ++ row_text t ++ codes "}"
  node_text (list s t) = codes "[" ++ row_text t ++ codes "]"
  node_text (other s k w) = w
  node_text nil = []
  node_text (cons t u) = []

  -- the elements of a tuple or a list, with commas between them, and what ends an improper list after a bar
  pub row_text : Tree → List ℕ
  row_text (cons t u) = node_text t ++ rest_text u
  row_text nil = []
  row_text (integer s n) = codes "|" ++ integer_text n
  row_text (atom s w) = codes "|" ++ printed_atom w
  row_text (tuple s t) = codes "|" ++ (codes "{" ++ row_text t ++ codes "}")
  row_text (list s t) = codes "|" ++ (codes "[" ++ row_text t ++ codes "]")
  row_text (other s k w) = codes "|" ++ w

  -- the same behind an element
  pub rest_text : Tree → List ℕ
  rest_text (cons t u) = codes "," ++ node_text t ++ rest_text u
  rest_text nil = []
  rest_text (integer s n) = codes "|" ++ integer_text n
  rest_text (atom s w) = codes "|" ++ printed_atom w
  rest_text (tuple s t) = codes "|" ++ (codes "{" ++ row_text t ++ codes "}")
  rest_text (list s t) = codes "|" ++ (codes "[" ++ row_text t ++ codes "]")
  rest_text (other s k w) = codes "|" ++ w
