-- Code that was read is code that can be written.
use Rattle.std.proofs.Common.{◌≡◌, ℕ, ◌≤◌, List, length, map, refl, arith, subst, ◌↔◌}
use Rattle.std.specs.List.{AllByRecursion}
use Rattle.bx_terms.specs.AtomTable.{IsAtomTable}
use Rattle.bx_text.specs.Place.{place_in}
use Rattle.bx_text.specs.Tree.{Tree}
use Rattle.bx_listing.specs.declared.code_form.Export.{Export}
use Rattle.bx_listing.specs.Reading.{Table, read}
use Rattle.bx_listing.specs.Items.{PlacedItem}
use Rattle.bx_listing.specs.Forms.{Forms, forms, last_line}
use Rattle.bx_listing.specs.Listed.{AreItems, no_more, an_annotation, an_item, AreFunctions, no_function, a_function, AreExports, no_export, an_export, IsListing, plain, with_attributes}
use Rattle.bx_listing.specs.ListedCode.{ListedFunction, ListedModule}
use Rattle.bx_listing.specs.Listing.{listing}
use Rattle.bx_listing.specs.Code.{Code, items_of, function_code_of, code}
use Rattle.bx_listing.specs.Writing.{code_text}
use Rattle.bx_listing.proofs.FormsOf.{forms_are_those}
use Rattle.bx_listing.proofs.Listed.{listings_are}
use Rattle.bx_listing_laws.specs.ReadBack.{IsReadBack, IsRead}
use Rattle.bx_listing_laws.specs.Writable.{IsWritableItem, IsWritableFunction, IsWritableExport, IsWritable}
use Rattle.bx_listing_laws.proofs.Depths.{FormsLow, forms_low}
use Rattle.bx_listing_laws.proofs.ReadOperands.{Within, named_within, number_low}
use Rattle.bx_listing_laws.proofs.ReadItems.{item_writable}
use Rattle.bx_listing_laws.proofs.WrittenCode.{written_is_read_back}

behind_items : {b c : Table} {fs rest : Forms} {is : List PlacedItem} → AreItems b fs is c rest → FormsLow fs → FormsLow rest
behind_items no_more h = h
behind_items (an_annotation e are) h = behind_items are h.1
behind_items (an_item i are) h = behind_items are h.1

items_writable : (last : Table) {b c : Table} {fs rest : Forms} {is : List PlacedItem} → AreItems b fs is c rest → length c ≤ length last → FormsLow fs
    → Within b last (AllByRecursion (IsWritableItem last) (items_of is))
items_writable last no_more l h = (l, tt)
items_writable last (an_annotation e are) l h = items_writable last are l h.1
items_writable last (an_item {before = b} {between = c} {t = t} {i = i} is are) l h =
    let more = items_writable last are l h.1 in
    let first = item_writable last b c t i is more.0 h.0 in
    (first.0, (first.1, more.1))

functions_writable : (last : Table) {b c : Table} {forms : Forms} {fs : List ListedFunction} → AreFunctions b forms fs c → length c ≤ length last → FormsLow forms
    → Within b last (AllByRecursion (IsWritableFunction last) (map function_code_of fs))
functions_writable last no_function l h = (l, tt)
functions_writable last (a_function {before = b} {named = d} {name = name} {arity = arity} {entry = entry} (n, a, e, is, (text, w, named), count, start) items more) l h =
    let others = functions_writable last more l (behind_items items h.1) in
    let own = items_writable last items others.0 h.1 in
    let head = named_within last b d text name named own.0 in
    (head.0, ((head.1, number_low a arity count, number_low e entry start, own.1), others.1))

exports_writable : (last : Table) {b c : Table} {ts : List Tree} {es : List Export} → AreExports b ts es c → length c ≤ length last → Within b last (AllByRecursion (IsWritableExport last) es)
exports_writable last no_export l = (l, tt)
exports_writable last (an_export {before = b} {between = c} {export = e} (text, a, is, named, count) more) l =
    let others = exports_writable last more l in
    let one = named_within last b c text e.function named others.0 in
    (one.0, ((one.1, number_low a e.arity count), others.1))

listing_writable : (last : Table) {b c : Table} {fs : Forms} {m : ListedModule} → IsListing b fs m c → length c ≤ length last → FormsLow fs → IsWritable last (code m)
listing_writable last (plain {before = b} {named = d} {name = name} (m, is, (text, w, named)) (offered, ts, es, listed, exports) labels functions) l h =
    let own = functions_writable last functions l h.1.1.1 in
    let offers = exports_writable last exports own.0 in
    ((named_within last b d text name named offers.0).1, offers.1, own.1)
listing_writable last (with_attributes {before = b} {named = d} {name = name} (m, is, (text, w, named)) (offered, ts, es, listed, exports) kept labels functions) l h =
    let own = functions_writable last functions l h.1.1.1.1 in
    let offers = exports_writable last exports own.0 in
    ((named_within last b d text name named offers.0).1, offers.1, own.1)

pub read_is_writable : (text : List ℕ) (m : ListedModule) (before behind : Table) → (listing (last_line text) (forms (place_in text 0))).run before ≡ read behind m → IsWritable behind (code m)
read_is_writable text m before behind h =
    listing_writable behind ((listings_are text m before behind).0 h) (omega arith) (forms_low ((forms_are_those (place_in text 0) (forms (place_in text 0))).0 refl))

pub read_and_back : (text : List ℕ) (m : ListedModule) (before behind : Table) → IsAtomTable behind → (listing (last_line text) (forms (place_in text 0))).run before ≡ read behind m → IsReadBack behind (code m)
read_and_back text m before behind table h = written_is_read_back behind (code m) table (read_is_writable text m before behind h)

pub writable_is_read : (names : Table) (c : Code) → IsAtomTable names → IsWritable names c ↔ IsRead names c
writable_is_read names c table = (
  λ h. let (m, is, same) = written_is_read_back names c table h in (code_text names c, names, m, is, same),
  λ x. let (text, before, m, is, same) = x in subst (IsWritable names) same (read_is_writable text m before names is),
)
