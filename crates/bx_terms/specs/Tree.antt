-- Terms as plain trees, and their height.
-- Source: Erlang Reference Manual, "Data Types".
use Rattle.std.specs.Prelude.{ℕ, ◌+◌, max, ℤ, List, [], ◌∷◌}

-- a tuple holds its elements as a list
pub data Tree : Type 0 where
  int : ℤ → Tree
  atom : ℕ → Tree
  pid : ℕ → Tree
  tuple : Tree → Tree
  nil : Tree
  cons : Tree → Tree → Tree

-- the proper list of these elements
abbrev pub listed : List Tree → Tree
listed [] = nil
listed (t ∷ ts) = cons t (listed ts)

-- a tuple is 1 higher than its highest element, or 1 high where it is empty; a list cell is 1 higher than the higher of
-- its head and its tail; all else has height 0
abbrev mutual
  pub height : Tree → ℕ
  height (tuple t) = 1 + highest t
  height (cons t u) = 1 + max (height t) (height u)
  height (int n) = 0
  height (atom a) = 0
  height (pid p) = 0
  height nil = 0

  pub highest : Tree → ℕ
  highest (cons t u) = max (height t) (highest u)
  highest (int n) = 0
  highest (atom a) = 0
  highest (pid p) = 0
  highest (tuple t) = 0
  highest nil = 0

-- how many of these constructors a term takes: a measure for recursions
abbrev pub nodes : Tree → ℕ
nodes (tuple t) = 1 + nodes t
nodes (cons t u) = 1 + nodes t + nodes u
nodes (int n) = 1
nodes (atom a) = 1
nodes (pid p) = 1
nodes nil = 1
