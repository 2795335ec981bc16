-- The text of an atom and of a literal's term is read as the same one.
use Rattle.std.proofs.Common.{◌≡◌, ℕ, ℤ, zero, suc, ◌≤◌, ◌<◌, false, List, [], ◌∷◌, ◌++◌, length, get_or, Some, refl, sym, ap, subst, arith, IsUtf8, slice_get}
use Rattle.std.proofs.lemmas.Option.{slice_get-get_or}
use Rattle.std.proofs.lemmas.Str.{IsUtf8-from_is_utf8}
use Rattle.bx_terms.specs.AtomTable.{IsAtomTable}
use Rattle.bx_terms.specs.Printed.{printed, printed_name, printed_tail, printed_elements}
use Rattle.bx_terms.specs.Tree as term
use Rattle.bx_terms.proofs.AtomLaws.{number_at}
use Rattle.bx_terms.proofs.AtomTables.{naming_held}
use Rattle.bx_text.specs.declared.node.Span.{Span}
use Rattle.bx_text.specs.Number.{is_large}
use Rattle.bx_text.specs.Printed.{node_text, row_text, rest_text}
use Rattle.bx_text.specs.Tree.{Tree, integer, atom, tuple, list, nil, cons}
use Rattle.bx_text_laws.specs.Shown.{Shown, ShownRow, ShownRest, nowhere, unplaced}
use Rattle.bx_listing.specs.Reading.{Table}
use Rattle.bx_listing.specs.ListedTerms.{Names, IsTerm, an_int, a_name, a_tuple, a_list, AreElements, no_element, an_element, IsRow, an_end, a_tail, a_cell}
use Rattle.bx_listing_laws.specs.Spellable.{IsSpellable, AreSpellable, nesting, inner_nesting}
use Rattle.bx_listing_laws.proofs.Trees.{Printed, integer_shown, integer_is, atom_is}

-- the text of an atom of the table is UTF-8, and names it
pub known : (names : Table) (a : ℕ) → IsAtomTable names → a < length names
    → (slice_get names a ≡ Some (get_or names a [])) × IsUtf8 (get_or names a []) × Names names (get_or names a []) (record { 0 = a }) names
known names a table h =
    let held = slice_get-get_or names a [] h in
    (held, IsUtf8-from_is_utf8 (get_or names a []) (table.utf8 a [] h), naming_held names (get_or names a []) a table (number_at names table.distinct (get_or names a []) a held))

pub name_printed : (d : ℕ) (names : Table) (a : ℕ) {Is : Tree → Type 0} → IsAtomTable names → a < length names
    → ((u : Tree) (s : Span) (text : List ℕ) → u ≡ atom s text → Names names text (record { 0 = a }) names → Is u) → Printed d (printed_name (slice_get names a)) Is
name_printed d names a {Is} table h k =
    let (held, utf8, named) = known names a table h in
    subst (λ o. Printed d (printed_name o) Is) (sym held)
    (record { tree = atom nowhere (get_or names a []); shown = utf8; printed = refl; means = λ u e. let (s, is) = atom_is u (get_or names a []) e in k u s (get_or names a []) is named })

-- the tree of a literal's term, alone, and behind a bracket or a comma
abbrev mutual
  tree_of : Table → term.Tree → Tree
  tree_of names (term.int n) = integer nowhere n
  tree_of names (term.atom a) = atom nowhere (get_or names a [])
  tree_of names (term.tuple t) = tuple nowhere (row_of names t)
  tree_of names (term.cons t u) = list nowhere (cons (tree_of names t) (row_of names u))
  tree_of names _ = list nowhere nil

  row_of : Table → term.Tree → Tree
  row_of names (term.int n) = integer nowhere n
  row_of names (term.atom a) = atom nowhere (get_or names a [])
  row_of names (term.tuple t) = tuple nowhere (row_of names t)
  row_of names (term.cons t u) = cons (tree_of names t) (row_of names u)
  row_of names _ = nil

module _ (names : Table) (table : IsAtomTable names) where
  mutual
    term_shown : (t : term.Tree) (d : ℕ) → IsSpellable names t → nesting t ≤ d → Shown d (tree_of names t)
    term_shown (term.int n) d v h = tt
    term_shown (term.atom a) d v h = (known names a table v).1
    term_shown (term.pid p) d v h = absurd v
    term_shown (term.tuple t) (suc d) v h = elements_shown t d v (omega arith)
    term_shown term.nil (suc d) v h = tt
    term_shown (term.cons t u) (suc d) v h = (term_shown t d v.0 (omega arith), tail_shown u d v.1 (omega arith))
    term_shown _ _ v h = absurd (omega arith)

    elements_shown : (t : term.Tree) (d : ℕ) → AreSpellable names t → inner_nesting t ≤ d → ShownRow d (row_of names t)
    elements_shown term.nil d v h = tt
    elements_shown (term.cons t u) d v h = (term_shown t d v.0 (omega arith), elements_shown u d v.1 (omega arith))
    elements_shown _ d v h = absurd v

    tail_shown : (t : term.Tree) (d : ℕ) → IsSpellable names t → inner_nesting t ≤ d → ShownRest d (row_of names t)
    tail_shown (term.int n) d v h = tt
    tail_shown (term.atom a) d v h = (known names a table v).1
    tail_shown (term.pid p) d v h = absurd v
    tail_shown (term.tuple t) (suc d) v h = elements_shown t d v (omega arith)
    tail_shown (term.tuple t) zero v h = absurd (omega arith)
    tail_shown term.nil d v h = tt
    tail_shown (term.cons t u) d v h = (term_shown t d v.0 (omega arith), tail_shown u d v.1 (omega arith))

  mutual
    term_text : (t : term.Tree) → IsSpellable names t → node_text (tree_of names t) ≡ printed names t
    term_text (term.int n) v = integer_shown n v
    term_text (term.atom a) v = ap printed_name (sym (known names a table v).0)
    term_text (term.pid p) v = absurd v
    term_text (term.tuple t) v = ap (λ w. 123 ∷ (w ++ 125 ∷ [])) (elements_text t v).0
    term_text term.nil v = refl
    term_text (term.cons t u) v = λ i. 91 ∷ ((term_text t v.0 i ++ tail_text u v.1 i) ++ 93 ∷ [])

    elements_text : (t : term.Tree) → AreSpellable names t → (row_text (row_of names t) ≡ printed_elements names t) × (rest_text (row_of names t) ≡ printed_tail names t)
    elements_text term.nil v = (refl, refl)
    elements_text (term.cons t u) v = let more = (elements_text u v.1).1 in let one = term_text t v.0 in ((λ i. one i ++ more i), (λ i. 44 ∷ (one i ++ more i)))
    elements_text _ v = absurd v

    tail_text : (t : term.Tree) → IsSpellable names t → rest_text (row_of names t) ≡ printed_tail names t
    tail_text (term.int n) v = ap (λ w. 124 ∷ w) (integer_shown n v)
    tail_text (term.atom a) v = ap (λ o. 124 ∷ printed_name o) (sym (known names a table v).0)
    tail_text (term.pid p) v = absurd v
    tail_text (term.tuple t) v = ap (λ w. 124 ∷ 123 ∷ (w ++ 125 ∷ [])) (elements_text t v).0
    tail_text term.nil v = refl
    tail_text (term.cons t u) v = λ i. 44 ∷ (term_text t v.0 i ++ tail_text u v.1 i)

  integer_term : (n : ℤ) (u : Tree) → is_large n ≡ false → unplaced u ≡ integer nowhere n → IsTerm names u (term.int n) names
  integer_term n u v e = let (s, is) = integer_is u n e in subst (λ u. IsTerm names u (term.int n) names) (sym is) (an_int v)

  name_term : (a : ℕ) (u : Tree) → a < length names → unplaced u ≡ atom nowhere (get_or names a []) → IsTerm names u (term.atom a) names
  name_term a u v e = let (s, is) = atom_is u (get_or names a []) e in subst (λ u. IsTerm names u (term.atom a) names) (sym is) (a_name (known names a table v).2)

  mutual
    term_is : (t : term.Tree) (u : Tree) → IsSpellable names t → unplaced u ≡ unplaced (tree_of names t) → IsTerm names u t names
    term_is (term.int n) u v e = integer_term n u v e
    term_is (term.atom a) u v e = name_term a u v e
    term_is (term.pid p) u v e = absurd v
    term_is (term.tuple t) (tuple s row) v e = a_tuple (elements_is t row v cc)
    term_is term.nil (list s nil) v e = a_list an_end
    term_is (term.cons t w) (list s (cons a b)) v e = a_list (a_cell (term_is t a v.0 cc) (row_is w b v.1 cc))
    term_is _ _ v e = absurd (cc)

    elements_is : (t : term.Tree) (u : Tree) → AreSpellable names t → unplaced u ≡ unplaced (row_of names t) → AreElements names u t names
    elements_is term.nil nil v e = no_element
    elements_is term.nil _ v e = absurd (cc)
    elements_is (term.cons t w) (cons a b) v e = an_element (term_is t a v.0 cc) (elements_is w b v.1 cc)
    elements_is (term.cons t w) _ v e = absurd (cc)
    elements_is _ u v e = absurd v

    row_is : (t : term.Tree) (u : Tree) → IsSpellable names t → unplaced u ≡ unplaced (row_of names t) → IsRow names u t names
    row_is (term.int n) u v e = a_tail (integer_term n u v e)
    row_is (term.atom a) u v e = a_tail (name_term a u v e)
    row_is (term.pid p) u v e = absurd v
    row_is (term.tuple t) (tuple s row) v e = a_tail (a_tuple (elements_is t row v cc))
    row_is term.nil nil v e = an_end
    row_is (term.cons t w) (cons a b) v e = a_cell (term_is t a v.0 cc) (row_is w b v.1 cc)
    row_is _ _ v e = absurd (cc)

-- a literal's term, where its brackets may nest d deep
pub term_printed : (d : ℕ) (names : Table) (t : term.Tree) → IsAtomTable names → IsSpellable names t → nesting t ≤ d → Printed d (printed names t) (λ u. IsTerm names u t names)
term_printed d names t table v h = record { tree = tree_of names t; shown = term_shown names table t d v h; printed = term_text names table t v; means = λ u e. term_is names table t u v e }
