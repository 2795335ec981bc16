-- Which forms are a listing of which code, by cases: how each part is written, and what it stands for. Atoms are numbered in
-- reading order, so each part has the table of atoms before it and the one behind it.
use Rattle.std.specs.Prelude.{◌≡◌, ℕ, List, [], ◌∷◌, Some, codes}
use Rattle.bx_terms.specs.declared.atom_table.AtomId.{AtomId}
use Rattle.bx_text.specs.Tree.{Tree}
use Rattle.bx_listing.specs.declared.code_form.Export.{Export}
use Rattle.bx_listing.specs.Reading.{Table}
use Rattle.bx_listing.specs.Shape.{list_elements}
use Rattle.bx_listing.specs.ListedTerms.{Names}
use Rattle.bx_listing.specs.Items.{Item, PlacedItem}
use Rattle.bx_listing.specs.ListedItems.{Tuple, Number, Atom, IsItem}
use Rattle.bx_listing.specs.Forms.{Forms, ends, form}
use Rattle.bx_listing.specs.ListedCode.{ListedFunction, ListedModule}

-- `{function,F,A,Entry}`
abbrev pub IsFunction : Table → Tree → AtomId → ℕ → ℕ → Table → Type 0
IsFunction before t name arity entry behind =
    (f : Tree) × (a : Tree) × (e : Tree) × Tuple t (codes "function") (f ∷ a ∷ e ∷ []) × Atom before f name behind × Number a arity × Number e entry

-- a function's items, up to where it ends; an annotation `{'%',T}` is passed over
pub data AreItems : Table → Forms → List PlacedItem → Table → Forms → Type 0 where
  no_more : {before : Table} {rest : Forms} → AreItems before rest [] before rest
  an_annotation : {before behind : Table} {line : ℕ} {t note : Tree} {forms rest : Forms} {is : List PlacedItem} → Tuple t (codes "%") (note ∷ [])
      → AreItems before forms is behind rest → AreItems before (form line t forms) is behind rest
  an_item : {before between behind : Table} {line : ℕ} {t : Tree} {i : Item} {forms rest : Forms} {is : List PlacedItem} → IsItem before t i between
      → AreItems between forms is behind rest → AreItems before (form line t forms) (record { line = line; item = i } ∷ is) behind rest

-- functions, each with its items behind it
pub data AreFunctions : Table → Forms → List ListedFunction → Table → Type 0 where
  no_function : {before : Table} → AreFunctions before ends [] before
  a_function : {before named between behind : Table} {line : ℕ} {t : Tree} {name : AtomId} {arity entry : ℕ} {forms rest : Forms} {is : List PlacedItem} {fs : List ListedFunction}
      → IsFunction before t name arity entry named → AreItems named forms is between rest → AreFunctions between rest fs behind
      → AreFunctions before (form line t forms) (record { name = name; arity = arity; entry = entry; items = is } ∷ fs) behind

-- `{module,M}`
abbrev pub IsModule : Table → Tree → AtomId → Table → Type 0
IsModule before t name behind = (m : Tree) × Tuple t (codes "module") (m ∷ []) × Atom before m name behind

-- `{F,A}`
abbrev pub IsExport : Table → Tree → Export → Table → Type 0
IsExport before t export behind =
    (text : List ℕ) × (a : Tree) × Tuple t text (a ∷ []) × Names before text export.function behind × Number a export.arity

pub data AreExports : Table → List Tree → List Export → Table → Type 0 where
  no_export : {before : Table} → AreExports before [] [] before
  an_export : {before between behind : Table} {t : Tree} {ts : List Tree} {export : Export} {exports : List Export} → IsExport before t export between
      → AreExports between ts exports behind → AreExports before (t ∷ ts) (export ∷ exports) behind

-- `{exports,[{F,A},..]}`
abbrev pub IsExports : Table → Tree → List Export → Table → Type 0
IsExports before t exports behind =
    (list : Tree) × (ts : List Tree) × Tuple t (codes "exports") (list ∷ []) × (list_elements list ≡ Some ts) × AreExports before ts exports behind

-- `{attributes,T}`
abbrev pub IsAttributes : Tree → Type 0
IsAttributes t = (kept : Tree) × Tuple t (codes "attributes") (kept ∷ [])

-- `{labels,N}`
abbrev pub IsLabels : Tree → Type 0
IsLabels t = (count : Tree) × (n : ℕ) × Tuple t (codes "labels") (count ∷ []) × Number count n

-- the module, its exports, its attributes, which may be missing, the number of its labels, and its functions
pub data IsListing : Table → Forms → ListedModule → Table → Type 0 where
  plain : {before named exported behind : Table} {i j k : ℕ} {m e l : Tree} {rest : Forms} {name : AtomId} {exports : List Export} {fs : List ListedFunction}
      → IsModule before m name named → IsExports named e exports exported → IsLabels l → AreFunctions exported rest fs behind
      → IsListing before (form i m (form j e (form k l rest))) (record { name = name; exports = exports; functions = fs }) behind
  with_attributes : {before named exported behind : Table} {i j h k : ℕ} {m e a l : Tree} {rest : Forms} {name : AtomId} {exports : List Export} {fs : List ListedFunction}
      → IsModule before m name named → IsExports named e exports exported → IsAttributes a → IsLabels l → AreFunctions exported rest fs behind
      → IsListing before (form i m (form j e (form h a (form k l rest)))) (record { name = name; exports = exports; functions = fs }) behind
