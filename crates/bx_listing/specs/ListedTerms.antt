-- Which term the term of a literal is, by cases: how each is written, with the table of atoms before it and the one behind it.
use Rattle.std.specs.Prelude.{◌≡◌, ℕ, ℤ, false, List, Ok}
use Rattle.bx_terms.specs.declared.atom_table.AtomId.{AtomId}
use Rattle.bx_terms.specs.Naming.{naming}
use Rattle.bx_terms.specs.Tree as term
use Rattle.bx_text.specs.declared.node.Span.{Span}
use Rattle.bx_text.specs.Number.{is_large}
use Rattle.bx_text.specs.Tree.{Tree, integer, atom, tuple, list, nil, cons}
use Rattle.bx_listing.specs.Reading.{Table}

-- the atom of a text: the table that holds the text stays, another gets it at its end
abbrev pub Names : Table → List ℕ → AtomId → Table → Type 0
Names before text a behind = naming before text ≡ Ok (behind, a)

-- integers have 64 bits
mutual
  pub data IsTerm : Table → Tree → term.Tree → Table → Type 0 where
    an_int : {before : Table} {s : Span} {n : ℤ} → is_large n ≡ false → IsTerm before (integer s n) (term.int n) before
    a_name : {before behind : Table} {s : Span} {text : List ℕ} {a : AtomId} → Names before text a behind → IsTerm before (atom s text) (term.atom a.0) behind
    a_tuple : {before behind : Table} {s : Span} {row : Tree} {x : term.Tree} → AreElements before row x behind → IsTerm before (tuple s row) (term.tuple x) behind
    a_list : {before behind : Table} {s : Span} {row : Tree} {x : term.Tree} → IsRow before row x behind → IsTerm before (list s row) x behind

  -- the elements of a tuple
  pub data AreElements : Table → Tree → term.Tree → Table → Type 0 where
    no_element : {before : Table} → AreElements before nil term.nil before
    an_element : {before between behind : Table} {t rest : Tree} {x y : term.Tree} → IsTerm before t x between → AreElements between rest y behind
        → AreElements before (cons t rest) (term.cons x y) behind

  -- the cells of a list, and the empty list or the term behind them
  pub data IsRow : Table → Tree → term.Tree → Table → Type 0 where
    an_end : {before : Table} → IsRow before nil term.nil before
    a_tail : {before behind : Table} {t : Tree} {x : term.Tree} → IsTerm before t x behind → IsRow before t x behind
    a_cell : {before between behind : Table} {t rest : Tree} {x y : term.Tree} → IsTerm before t x between → IsRow between rest y behind
        → IsRow before (cons t rest) (term.cons x y) behind
