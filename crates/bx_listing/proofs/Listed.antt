-- What is read as a listing is one, and what is one is read so.
use Rattle.bx_listing.proofs.Known.{◌≡◌, ℕ, Bool, true, false, List, [], Result, Ok, Err, refl, if◌then◌else◌, ◌↔◌, AtomId, Fault, Tree, Export, Table, read}
use Rattle.bx_listing.proofs.Known.{give, on_line, shape, place_in, Forms, ends, broken, form, forms, last_line, module_form, exports_form, is_attributes}
use Rattle.bx_listing.proofs.Known.{is_labels, ListedFunction, ListedModule, taken, and_so, behind_labels, behind_head, functions, listed, behind_exports}
use Rattle.bx_listing.proofs.Known.{behind_name, listing, IsModule, IsExports, IsAttributes, IsLabels, AreFunctions, IsListing, with_attributes}
use Rattle.bx_listing.proofs.Lemmas.{given, after_read, after_result, lined_read, FormsWritten, forms_written}
use Rattle.bx_listing.proofs.ListedHeads.{module_is, module_read, exports_are, exports_read, attributes_are, attributes_test, labels_are, labels_test}
use Rattle.bx_listing.proofs.ListedForms.{functions_are, functions_read}
use Rattle.bx_listing.specs.Listed.{plain}
use Rattle.bx_terms.specs.declared.faults.Fault.TheVariants as faults

-- `{labels,N}`, before which `{attributes,T}` may stand
data IsHead : Forms → Forms → Type 0 where
  alone : {k : ℕ} {l : Tree} {rest : Forms} → IsLabels l → IsHead (form k l rest) rest
  after_attributes : {h k : ℕ} {a l : Tree} {rest : Forms} → IsAttributes a → IsLabels l → IsHead (form h a (form k l rest)) rest

labels_behind : (k : ℕ) (l : Tree) (after rest : Forms) → behind_labels (record { line = k; tree = l; rest = after }) ≡ Ok rest → IsLabels l × (after ≡ rest)
labels_behind k l after rest h = by (is_labels (shape l)) refl h
  where
    by : (yes : Bool) → is_labels (shape l) ≡ yes → ◌≡◌ {A = Result Forms Fault} (if yes then Ok after else Err (faults.BadForm k)) (Ok rest) → IsLabels l × (after ≡ rest)
    by true e h = (labels_are l e, cc)
    by false e h = absurd (cc)

head_is : (last : ℕ) (all rest : Forms) → behind_head last all ≡ Ok rest → IsHead all rest
head_is last (form k l after) rest h = by (is_attributes (shape l)) refl h
  where
    second : (all : Forms) → IsAttributes l → and_so (taken last all) behind_labels ≡ Ok rest → IsHead (form k l all) rest
    second ends a h = absurd (cc)
    second (broken fault) a h = absurd (cc)
    second (form j m past) a h = let found = labels_behind j m past rest h in rw found.1 (after_attributes a found.0)

    by : (yes : Bool) → is_attributes (shape l) ≡ yes
        → (if yes then and_so (taken last after) behind_labels else behind_labels (record { line = k; tree = l; rest = after })) ≡ Ok rest → IsHead (form k l after) rest
    by true e h = second after (attributes_are l e) h
    by false e h = let found = labels_behind k l after rest h in rw found.1 (alone found.0)
head_is last _ rest h = absurd (cc)

head_read : (last : ℕ) {all rest : Forms} → IsHead all rest → behind_head last all ≡ Ok rest
head_read last (alone {l = l} is) = rw ((labels_test l is).1, (labels_test l is).0)
head_read last (after_attributes {a = a} {l = l} attributes is) = rw (attributes_test a attributes, (labels_test l is).0)

whole : {b c d e : Table} {i j : ℕ} {m x : Tree} {all rest : Forms} {name : AtomId} {exports : List Export} {fs : List ListedFunction}
    → IsModule b m name c → IsExports c x exports d → IsHead all rest → AreFunctions d rest fs e → IsListing b (form i m (form j x all)) (record { name = name; exports = exports; functions = fs }) e
whole m x (alone l) fs = plain m x l fs
whole m x (after_attributes a l) fs = with_attributes m x a l fs

head_written : {all rest : Forms} → IsHead all rest → FormsWritten all → FormsWritten rest
head_written (alone l) w = w.1
head_written (after_attributes a l) w = w.1.1

pub listing_is : (last : ℕ) (forms : Forms) (code : ListedModule) (b e : Table) → FormsWritten forms → (listing last forms).run b ≡ read e code → IsListing b forms code e
listing_is last (form i m (form j x all)) code b e w h =
    after_read ((on_line i (module_form (shape m))).run b) (behind_name last (form j x all)) e code (λ c name e1.
    after_read ((on_line j (exports_form (shape x))).run c) (behind_exports last name all) e code (λ d exports e3.
    after_result (behind_head last all) (listed name exports) d e code (λ rest e4.
    after_read ((functions [] rest).run d) (λ fs. give (record { name = name; exports = exports; functions = fs })) e code (λ g fs e5 h5.
    given (IsListing b (form i m (form j x all))) (record { name = name; exports = exports; functions = fs }) code g e h5
    (whole (module_is m b c name (lined_read i ((module_form (shape m)).run b) c name e1)) (exports_are x c d exports (lined_read j ((exports_form (shape x)).run c) d exports e3)) (head_is last all rest e4) (functions_are rest d g fs (head_written (head_is last all rest e4) w.1.1) e5)))))) h
listing_is last (form i m rest) code b e w h =
    after_read ((on_line i (module_form (shape m))).run b) (behind_name last rest) e code (λ c name e1 h1. absurd (cc h1)) h
listing_is last _ code b e w h = absurd (cc)

read_whole : (last : ℕ) (b c d e : Table) (i j : ℕ) (m x : Tree) (all rest : Forms) (name : AtomId) (exports : List Export) (fs : List ListedFunction)
    → IsModule b m name c → IsExports c x exports d → IsHead all rest → AreFunctions d rest fs e
    → (listing last (form i m (form j x all))).run b ≡ read e (record { name = name; exports = exports; functions = fs })
read_whole last b c d e i j m x all rest name exports fs is xs hs are =
    rw (module_read m b c name is, exports_read x c d exports xs, head_read last hs, functions_read are)

pub listing_read : {forms : Forms} {code : ListedModule} {b e : Table} → (last : ℕ) → IsListing b forms code e → (listing last forms).run b ≡ read e code
listing_read last (plain {before = b} {named = c} {exported = d} {behind = e} {i = i} {j = j} {k = k} {m = m} {e = x} {l = l} {rest = rest} {name = name} {exports = exports} {fs = fs} is xs ls are) =
    read_whole last b c d e i j m x (form k l rest) rest name exports fs is xs (alone ls) are
listing_read last (with_attributes {before = b} {named = c} {exported = d} {behind = e} {i = i} {j = j} {h = h} {k = k} {m = m} {e = x} {a = a} {l = l} {rest = rest} {name = name} {exports = exports} {fs = fs} is xs ats ls are) =
    read_whole last b c d e i j m x (form h a (form k l rest)) rest name exports fs is xs (after_attributes ats ls) are

pub listings_are : (text : List ℕ) (code : ListedModule) (before behind : Table)
    → ((listing (last_line text) (forms (place_in text 0))).run before ≡ read behind code) ↔ IsListing before (forms (place_in text 0)) code behind
listings_are text code before behind =
    (λ h. listing_is (last_line text) (forms (place_in text 0)) code before behind (forms_written (place_in text 0)) h, λ h. listing_read (last_line text) h)
