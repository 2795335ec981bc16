-- Texts of forms, a line each, are read as those forms.
use Rattle.std.proofs.Common.{◌≡◌, ℕ, suc, ◌+◌, ◌≤◌, List, [], ◌∷◌, ◌++◌, map, fold, Some, refl, sym, ap, ◌∙◌, subst, arith, codes, decimal, append_assoc}
use Rattle.std.specs.List.{AllByRecursion, flat_map}
use Rattle.std.proofs.lemmas.Bool.Decides.{nat_tests}
use Rattle.bx_terms.specs.declared.atom_table.AtomId.{AtomId}
use Rattle.bx_terms.specs.AtomTable.{IsAtomTable}
use Rattle.bx_text.specs.Place.{Place}
use Rattle.bx_text.specs.Tree.{Tree, span_of}
use Rattle.bx_text_laws.proofs.Frame.{on}
use Rattle.bx_text_laws.proofs.FormsBack.{FormRead, form_here, form_below}
use Rattle.bx_listing.specs.declared.code_form.Export.{Export}
use Rattle.bx_listing.specs.declared.items.Operand.{Operand}
use Rattle.bx_listing.specs.declared.items.Operand.TheVariants as operands
use Rattle.bx_listing.specs.Reading.{Table}
use Rattle.bx_listing.specs.Shape.{list_elements}
use Rattle.bx_listing.specs.Items.{Item, PlacedItem}
use Rattle.bx_listing.specs.Forms.{Forms, ends, form}
use Rattle.bx_listing.specs.FormsOf.{AreForms, none_follows, one_follows}
use Rattle.bx_listing.specs.Listed.{IsFunction, AreItems, no_more, an_item, AreFunctions, no_function, a_function, IsModule, IsExport, AreExports, no_export, an_export, IsExports, IsAttributes, IsLabels}
use Rattle.bx_listing.specs.ListedCode.{ListedFunction}
use Rattle.bx_listing.specs.Code.{CodeFunction, items_of, function_code_of}
use Rattle.bx_listing.specs.Writing.{name_text, item_words, item_text, function_text, offer_text, offers_text, label_above, labels_above, greatest_label, label_count}
use Rattle.bx_listing_laws.specs.Writable.{IsHeld, InRange, IsWritableOperand, depth_left, IsWritableItem, IsWritableFunction, IsWritableExport}
use Rattle.bx_listing_laws.proofs.Trees.{Printed, PrintedAll, reworded, between, joined_is, plain_utf8, none_printed, more_printed, nothing_printed, tagged_printed, list_printed}
use Rattle.bx_listing_laws.proofs.WrittenOperands.{one_part, part, single, number_alone, atom_alone, counted_printed}
use Rattle.bx_listing_laws.proofs.WrittenItems.{item_printed}

-- wherever a line ends before this text, the forms behind it are such
abbrev pub Below : (Forms → Type 0) → List ℕ → Type 0
Below Are text = (at line : ℕ) → (fs : Forms) × AreForms (on (10 ∷ text) at line) fs × Are fs

pub nothing_below : {Are : Forms → Type 0} → Are ends → Below Are []
nothing_below is at line = (ends, none_follows (on [] (at + 1) (line + 1), refl, refl), is)

form_then : {p : Place} {text rest : List ℕ} {Is : Tree → Type 0} {Rest Are : Forms → Type 0} (f : Printed 256 text Is) → FormRead p rest f.tree → Below Rest rest
    → ((line : ℕ) (u : Tree) (fs : Forms) → Is u → Rest fs → Are (form line u fs)) → (fs : Forms) × AreForms p fs × Are fs
form_then f r more k =
    let (fs, are, is) = more r.at r.line in (form (span_of r.tree).line r.tree fs, one_follows r.form are, k (span_of r.tree).line r.tree fs (f.means r.tree r.same) is)

pub form_ahead : {text rest : List ℕ} {Is : Tree → Type 0} {Rest Are : Forms → Type 0} → Printed 256 text Is → Below Rest rest → ((line : ℕ) (u : Tree) (fs : Forms) → Is u → Rest fs → Are (form line u fs))
    → Below Are (text ++ 46 ∷ 10 ∷ rest)
form_ahead {rest = rest} {Are = Are} p more k = subst (λ w. Below Are (w ++ 46 ∷ 10 ∷ rest)) p.printed (λ at line. form_then p (form_below p.tree rest at line p.shown) more k)

-- a form, whatever is wanted of it before
abbrev pub Wants : (Tree → Type 0) → (Forms → Type 0) → Forms → Type 0
Wants Is Are fs = (line : ℕ) (u : Tree) → Is u → Are (form line u fs)

pub wanted_ahead : {text rest : List ℕ} {Is : Tree → Type 0} {Are : Forms → Type 0} → Printed 256 text Is → Below (Wants Is Are) rest → Below Are (text ++ 46 ∷ 10 ∷ rest)
wanted_ahead p more = form_ahead p more (λ line u fs is f. f line u is)

-- the first form of a text
pub wanted_first : {text rest : List ℕ} {Is : Tree → Type 0} {Are : Forms → Type 0} → Printed 256 text Is → Below (Wants Is Are) rest → (fs : Forms) × AreForms (on (text ++ 46 ∷ 10 ∷ rest) 0 1) fs × Are fs
wanted_first {rest = rest} {Are = Are} p more =
    subst (λ w. (fs : Forms) × AreForms (on (w ++ 46 ∷ 10 ∷ rest) 0 1) fs × Are fs) p.printed (form_then p (form_here p.tree rest 0 1 p.shown) more (λ line u fs is f. f line u is))

-- a line, and what is behind it
line_joined : (w more rest : List ℕ) → w ++ 46 ∷ 10 ∷ (more ++ rest) ≡ ((w ++ codes ".\n") ++ more) ++ rest
line_joined w more rest = simp append_assoc

-- items, and what is behind them
abbrev Items : Table → List Item → (Forms → Type 0) → Forms → Type 0
Items names is Rest fs = (placed : List PlacedItem) × (rest : Forms) × AreItems names fs placed names rest × (items_of placed ≡ is) × Rest rest

items_below : (names : Table) (is : List Item) {rest : List ℕ} {Rest : Forms → Type 0} → IsAtomTable names → AllByRecursion (IsWritableItem names) is → Below Rest rest
    → Below (Items names is Rest) (flat_map (item_text names) is ++ rest)
items_below names [] table a more = λ at line. let (fs, are, is) = more at line in (fs, are, ([], fs, no_more, refl, is))
items_below names (i ∷ is) {rest = rest} {Rest = Rest} table a more =
    subst (Below (Items names (i ∷ is) Rest)) (line_joined (item_words names i) (flat_map (item_text names) is) rest)
    (form_ahead (item_printed names i table a.0) (items_below names is table a.1 more) (λ line u fs item x.
    let (placed, left, are, same, is_rest) = x in
    (record { line = line; item = i } ∷ placed, left, an_item item are, ap (λ is. i ∷ is) same, is_rest)))

-- functions

abbrev head_words : Table → CodeFunction → List ℕ
head_words names f = codes "{function," ++ name_text names f.name ++ codes "," ++ decimal f.arity ++ codes "," ++ decimal f.entry ++ codes "}"

head_printed : (names : Table) (f : CodeFunction) → IsAtomTable names → IsWritableFunction names f → Printed 256 (head_words names f) (λ u. IsFunction names u f.name f.arity f.entry names)
head_printed names f table h =
    reworded (simp append_assoc)
    (tagged_printed 255 (codes "function") (plain_utf8 (codes "function") refl)
    (part (atom_alone 255 names f.name table h.0) (part (number_alone 255 f.arity h.1) (one_part (number_alone 255 f.entry h.2))))
    (λ u us is x.
    let (n, vs, e, named, (a, ws, g, arity, (entry, last, number))) = x in
    (n, a, entry, cc, named, arity, number)))

abbrev pub Functions : Table → List CodeFunction → Forms → Type 0
Functions names fs forms = (listed : List ListedFunction) × AreFunctions names forms listed names × (map function_code_of listed ≡ fs)

head_joined : (a b c more rest : List ℕ) → (((((a ++ codes ",") ++ b) ++ codes ",") ++ c) ++ codes "}") ++ 46 ∷ 10 ∷ (more ++ rest) ≡ ((((((a ++ codes ",") ++ b) ++ codes ",") ++ c) ++ codes "}.\n") ++ more) ++ rest
head_joined a b c more rest = simp append_assoc

pub functions_below : (names : Table) (fs : List CodeFunction) → IsAtomTable names → AllByRecursion (IsWritableFunction names) fs → Below (Functions names fs) (flat_map (function_text names) fs)
functions_below names [] table a = nothing_below ([], no_function, refl)
functions_below names (f ∷ fs) table a =
    subst (Below (Functions names (f ∷ fs)))
    (head_joined (codes "{function," ++ name_text names f.name) (decimal f.arity) (decimal f.entry) (flat_map (item_text names) f.items) (flat_map (function_text names) fs))
    (form_ahead (head_printed names f table a.0) (items_below names f.items table a.0.3 (functions_below names fs table a.1)) (λ line u forms head x.
    let (placed, left, are, same, (listed, others, rest)) = x in (
      record { name = f.name; arity = f.arity; entry = f.entry; items = placed } ∷ listed,
      a_function head are others,
      ap (λ is. record { name = f.name; arity = f.arity; entry = f.entry; items = is } ∷ map function_code_of listed) same ∙ ap (λ fs. f ∷ fs) rest,
    )))

-- the head of a listing

pub module_printed : (names : Table) (a : AtomId) → IsAtomTable names → IsHeld names a → Printed 256 (codes "{module," ++ name_text names a ++ codes "}") (λ u. IsModule names u a names)
module_printed names a table h = single 255 (codes "module") refl (atom_alone 255 names a table h) (λ u v is at. (v, is, at))

offers_printed : (d : ℕ) (names : Table) (es : List Export) → IsAtomTable names → AllByRecursion (IsWritableExport names) es → PrintedAll (suc d) (map (offer_text names) es) (λ us. AreExports names us es names)
offers_printed d names [] table a = none_printed no_export
offers_printed d names (e ∷ es) table a =
    more_printed (counted_printed d names e.function e.arity {Is = λ u. IsExport names u e names} table a.0.0 a.0.1 (λ u text v is named number. (text, v, is, named, number))) (offers_printed d names es table a.1) (λ u us is are. an_export is are)

pub exports_printed : (names : Table) (es : List Export) → IsAtomTable names → AllByRecursion (IsWritableExport names) es
    → Printed 256 (codes "{exports," ++ (91 ∷ between (map (offer_text names) es) (93 ∷ []) ++ codes "}")) (λ u. IsExports names u es names)
exports_printed names es table a =
    single 255 (codes "exports") refl
    (list_printed 254 {Is = λ v. (us : List Tree) × (list_elements v ≡ Some us) × AreExports names us es names} (offers_printed 253 names es table a) (λ v us is are. (us, is, are)))
    (λ u v is x. (v, x.0, is, x.1, x.2))

pub offers_are : (names : Table) (es : List Export) (end : List ℕ) → between (map (offer_text names) es) end ≡ offers_text names es ++ end
offers_are names [] end = refl
offers_are names (e ∷ es) end = sym (joined_is (offer_text names) e es end)

pub attributes_printed : Printed 256 (codes "{attributes,[]}") IsAttributes
attributes_printed = single 255 (codes "attributes") refl (nothing_printed 254 {Is = λ v. Unit {0}} (λ v. tt)) (λ u v is x. (v, is))

pub labels_printed : (n : ℕ) → InRange n → Printed 256 (codes "{labels," ++ decimal n ++ codes "}") IsLabels
labels_printed n h = single 255 (codes "labels") refl (number_alone 255 n h) (λ u v is number. (v, n, is, number))

-- the number of labels is one that a listing may hold

label_low : (names : Table) (k n : ℕ) (os : List Operand) → InRange n → AllByRecursion (IsWritableOperand names k) os → InRange (label_above n os)
label_low names k n (operands.Place l ∷ os) h a = let m : l ≤ 4294967295 = a.0 in omega arith
label_low names k n _ h a = h

labels_low : (names : Table) (n : ℕ) (is : List Item) → InRange n → AllByRecursion (IsWritableItem names) is → InRange (labels_above n is)
labels_low names n [] h a = h
labels_low names n (i ∷ is) h a = labels_low names (label_above n i.operands) is (label_low names (depth_left i.op) n i.operands h a.0.1) a.1

greatest_low : (names : Table) (n : ℕ) (fs : List CodeFunction) → InRange n → AllByRecursion (IsWritableFunction names) fs → InRange (fold (λ n f. labels_above n f.items) n fs)
greatest_low names n [] h a = h
greatest_low names n (f ∷ fs) h a = greatest_low names (labels_above n f.items) fs (labels_low names n f.items h a.0.3) a.1

one_more : (n : ℕ) → InRange n → InRange (label_count n)
one_more n h = grind (arith, nat_tests)

pub count_low : (names : Table) (fs : List CodeFunction) → AllByRecursion (IsWritableFunction names) fs → InRange (label_count (greatest_label fs))
count_low names fs a = one_more (greatest_label fs) (greatest_low names 0 fs (omega arith) a)
