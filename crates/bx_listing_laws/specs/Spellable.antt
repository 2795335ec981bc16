-- Which terms a listing can write as literals: those that it can spell, nested and built as high as is read.
use Rattle.std.specs.Prelude.{◌≡◌, ◌≤◌, ◌<◌, ℕ, ◌+◌, max, false, length}
use Rattle.bx_terms.specs.Tree.{Tree, int, atom, pid, tuple, nil, cons, height}
use Rattle.bx_text.specs.Number.{is_large}
use Rattle.bx_listing.specs.Reading.{Table}

abbrev mutual
  -- an integer of 64 bits, an atom of the table, or a tuple or a list, proper or not, of such terms
  pub IsSpellable : Table → Tree → Type 0
  IsSpellable names (int n) = is_large n ≡ false
  IsSpellable names (atom a) = a < length names
  IsSpellable names (pid p) = ⊥
  IsSpellable names (tuple t) = AreSpellable names t
  IsSpellable names nil = Unit {0}
  IsSpellable names (cons t u) = IsSpellable names t × IsSpellable names u

  -- a tuple's elements
  pub AreSpellable : Table → Tree → Type 0
  AreSpellable names nil = Unit {0}
  AreSpellable names (cons t u) = IsSpellable names t × AreSpellable names u
  AreSpellable names t = ⊥

abbrev mutual
  -- how deep the brackets of a term's text nest
  pub nesting : Tree → ℕ
  nesting (tuple t) = 1 + inner_nesting t
  nesting (cons t u) = 1 + max (nesting t) (inner_nesting u)
  nesting nil = 1
  nesting t = 0

  -- the same of elements and tails, which stand between brackets that are there already
  pub inner_nesting : Tree → ℕ
  inner_nesting (tuple t) = 1 + inner_nesting t
  inner_nesting (cons t u) = max (nesting t) (inner_nesting u)
  inner_nesting t = 0

-- a literal, where its brackets may nest so deep
abbrev pub IsLiteral : Table → ℕ → Tree → Type 0
IsLiteral names depth t = IsSpellable names t × (nesting t ≤ depth) × (height t ≤ 10000)
