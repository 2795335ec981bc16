-- Terms whose printed text is read back as the same term, spans aside.
use Rattle.std.specs.Prelude.{◌≡◌, ℕ, zero, suc, List, [], ◌++◌, Some, Ok, codes, IsUtf8}
use Rattle.bx_text.specs.Place.{Place, place_in}
use Rattle.bx_text.specs.Printed.{node_text}
use Rattle.bx_text.specs.Forms.{form_at}
use Rattle.bx_text.specs.declared.node.Span.{Span}
use Rattle.bx_text.specs.declared.node.Sort.{Sort}
use Rattle.bx_text.specs.Token.{Lexeme}
use Rattle.bx_text.specs.Tree.{Tree, integer, atom, tuple, list, other, nil, cons}
use Rattle.bx_text_laws.specs.Terms.{Stood, Term}

-- the bytes stand in some text as a term that is kept as it is written, in which brackets nest at most so many deep
abbrev pub StandsAs : ℕ → Sort → List ℕ → Type 0
StandsAs d k w = (p : Place) × (l : Lexeme) × (s : Span) × (q : Place) × Stood p l
    × Term d l (other s k w) q

-- the bytes stand in some text as a term that is kept as it is written
abbrev pub IsStanding : Sort → List ℕ → Type 0
IsStanding k w = (d : ℕ) × StandsAs d k w

abbrev mutual
  -- integers of any size, atoms, what is kept as it is written, and tuples and lists of such terms, nested at most so many deep
  pub Shown : ℕ → Tree → Type 0
  Shown d (integer s n) = Unit {0}
  Shown d (atom s w) = IsUtf8 w
  Shown zero (tuple s t) = ⊥
  Shown (suc d) (tuple s t) = ShownRow d t
  Shown zero (list s t) = ⊥
  Shown (suc d) (list s t) = ShownList d t
  Shown d (other s k w) = StandsAs d k w
  Shown d t = ⊥

  -- a tuple's elements
  pub ShownRow : ℕ → Tree → Type 0
  ShownRow d nil = Unit {0}
  ShownRow d (cons t u) = Shown d t × ShownRow d u
  ShownRow d t = ⊥

  -- a list's elements, and its tail behind one element at least
  pub ShownList : ℕ → Tree → Type 0
  ShownList d nil = Unit {0}
  ShownList d (cons t u) = Shown d t × ShownRest d u
  ShownList d t = ⊥

  -- a tail is no list
  pub ShownRest : ℕ → Tree → Type 0
  ShownRest d nil = Unit {0}
  ShownRest d (cons t u) = Shown d t × ShownRest d u
  ShownRest d (integer s n) = Unit {0}
  ShownRest d (atom s w) = IsUtf8 w
  ShownRest zero (tuple s t) = ⊥
  ShownRest (suc d) (tuple s t) = ShownRow d t
  ShownRest d (other s k w) = StandsAs d k w
  ShownRest d t = ⊥

abbrev pub nowhere : Span
nowhere = record { from = 0; to = 0; line = 0 }

-- the term without its spans
abbrev pub unplaced : Tree → Tree
unplaced (integer s n) = integer nowhere n
unplaced (atom s w) = atom nowhere w
unplaced (tuple s t) = tuple nowhere (unplaced t)
unplaced (list s t) = list nowhere (unplaced t)
unplaced (other s k w) = other nowhere k w
unplaced nil = nil
unplaced (cons t u) = cons (unplaced t) (unplaced u)

-- the term's text and a full stop are read as the same term, up to the end
abbrev pub IsReadBack : Tree → Type 0
IsReadBack t = (u : Tree) × (q : Place)
    × (form_at (place_in (node_text t ++ codes ".") 0) ≡ Ok (Some (u, q))) × (q.rest ≡ [])
    × (unplaced u ≡ unplaced t)
