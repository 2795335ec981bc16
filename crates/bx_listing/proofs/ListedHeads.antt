-- What is read as a form of the head is one, and is read so wherever it is one.
use Rattle.bx_listing.proofs.Known.{ap, ◌∙◌, ◌≡◌, ℕ, Bool, true, false, List, [], ◌∷◌, Some, codes, refl, if◌then◌else◌, is_some, AtomId, Tree, Export}
use Rattle.bx_listing.proofs.Known.{FormWord, Table, read, ◌>>=◌, give, named, no_line, Shape, tagged, shape, number, word, list_elements, module_name}
use Rattle.bx_listing.proofs.Known.{module_form, are_offers, named_offer, exports_form, is_attributes, is_labels, Tuple, Number, IsModule, IsExports}
use Rattle.bx_listing.proofs.Lemmas.{some_then, by_form_word, given, after_read, after_wanted, mapped, IsFormWord}
use Rattle.bx_listing.proofs.{Known.IsAttributes, Known.IsLabels, ListedOperands.at_word, ListedOperands.names_are, ListedOperands.names_read}
use Rattle.bx_listing.specs.HeadForms.{bad_form, module_of, offer_in, offer, named_offer_of, named_offers, offers, exports_of, is_attributes_of, is_labels_of}
use Rattle.bx_listing.specs.Listed.{IsExport, AreExports, no_export, an_export}
use Rattle.bx_terms.specs.declared.faults.Fault.TheVariants as faults
use Rattle.bx_listing.specs.declared.words.FormWord.TheVariants as words

module_named : (t : Tree) (text : List ℕ) → module_name (shape t) ≡ Some text → (m : Tree) × Tuple t (codes "module") (m ∷ []) × (word m ≡ Some text)
module_named t text = by_form_word module_name module_of t (Some text) (λ w ts. refl) (λ w h. cc) (λ h. cc) by
  where
    by : (w : List ℕ) (k : FormWord) (parts : List Tree) → IsFormWord w k → shape t ≡ tagged w parts → module_of k parts ≡ Some text
        → (m : Tree) × Tuple t (codes "module") (m ∷ []) × (word m ≡ Some text)
    by w words.Module (m ∷ []) is e h = (m, at_word t e is, h)
    by w k parts is e h = absurd (cc)

-- `{F,A}`
abbrev IsOffer : Tree → List ℕ × ℕ → Type 0
IsOffer t o = (a : Tree) × Tuple t o.0 (a ∷ []) × Number a o.1

offer_is : (t : Tree) (o : List ℕ × ℕ) → offer t ≡ Some o → IsOffer t o
offer_is t o h = by (shape t) refl h
  where
    by : (s : Shape) → shape t ≡ s → offer_in s ≡ Some o → IsOffer t o
    by (tagged w (a ∷ [])) e h = mapped (IsOffer t) (λ n. (w, n)) (number a) o h (λ n at. (a, e, at))
    by _ e h = absurd (cc)

export_is : (t : Tree) (b c : Table) (x : Export) → (named_offer t).run b ≡ read c x → IsExport b t x c
export_is t b c x =
    some_then (λ o. (named_offer_of o).run b) (read c x) (offer t) (λ h. cc) (λ o e.
    after_read ((named o.0).run b) (λ f. give (record { function = f; arity = o.1 })) c x (λ d f e1 h1.
    let at = offer_is t o e in
    given (IsExport b t) (record { function = f; arity = o.1 }) x d c h1 (o.0, at.0, at.1, names_are o.0 b d f e1, at.2)))

exports_of_list : (ts : List Tree) (b c : Table) (xs : List Export) → (named_offers ts).run b ≡ read c xs → AreExports b ts xs c
exports_of_list [] b c xs h = given (AreExports b []) [] xs b c h no_export
exports_of_list (t ∷ ts) b c xs h =
    after_read ((named_offer t).run b) (λ y. named_offers ts >>= λ ys. give (y ∷ ys)) c xs (λ d y e1.
    after_read ((named_offers ts).run d) (λ ys. give (y ∷ ys)) c xs (λ m ys e2 h2.
    given (AreExports b (t ∷ ts)) (y ∷ ys) xs m c h2 (an_export (export_is t b d y e1) (exports_of_list ts d m ys e2)))) h

pub exports_are : (t : Tree) (b c : Table) (xs : List Export) → (exports_form (shape t)).run b ≡ read c xs → IsExports b t xs c
exports_are t b c xs = by_form_word (λ s. (exports_form s).run b) (λ k parts. (exports_of k parts).run b) t (read c xs) (λ w ts. refl) (λ w h. cc) (λ h. cc) by
  where
    when_offers : (ts : List Tree) (are : Bool) → (if are then named_offers ts else bad_form).run b ≡ read c xs → AreExports b ts xs c
    when_offers ts true h = exports_of_list ts b c xs h
    when_offers ts false h = absurd (cc)

    by : (w : List ℕ) (k : FormWord) (parts : List Tree) → IsFormWord w k → shape t ≡ tagged w parts → (exports_of k parts).run b ≡ read c xs → IsExports b t xs c
    by w words.Exports (es ∷ []) is e h =
        after_wanted (faults.BadForm no_line) (list_elements es) offers b c xs (λ ts e1 h1. (es, ts, at_word t e is, e1, when_offers ts (are_offers ts) h1)) h
    by w k parts is e h = absurd (cc)

pub attributes_are : (t : Tree) → is_attributes (shape t) ≡ true → IsAttributes t
attributes_are t = by_form_word is_attributes is_attributes_of t true (λ w ts. refl) (λ w h. cc) (λ h. cc) by
  where
    by : (w : List ℕ) (k : FormWord) (parts : List Tree) → IsFormWord w k → shape t ≡ tagged w parts → is_attributes_of k parts ≡ true → IsAttributes t
    by w words.Attributes (kept ∷ []) is e h = (kept, at_word t e is)
    by w k parts is e h = absurd (cc)

pub labels_are : (t : Tree) → is_labels (shape t) ≡ true → IsLabels t
labels_are t = by_form_word is_labels is_labels_of t true (λ w ts. refl) (λ w h. cc) (λ h. cc) by
  where
    by : (w : List ℕ) (k : FormWord) (parts : List Tree) → IsFormWord w k → shape t ≡ tagged w parts → is_labels_of k parts ≡ true → IsLabels t
    by w words.Labels (n ∷ []) is e h = some_then is_some true (number n) (λ h. cc) (λ k at h. (n, k, at_word t e is, at)) h
    by w k parts is e h = absurd (cc)

-- and the other way
pub attributes_test : (t : Tree) → IsAttributes t → is_attributes (shape t) ≡ true
attributes_test t (kept, is) = rw is

pub labels_test : (t : Tree) → IsLabels t → (is_labels (shape t) ≡ true) × (is_attributes (shape t) ≡ false)
labels_test t (n, k, is, at) = (rw (is, at), rw is)

pub module_is : (t : Tree) (b c : Table) (name : AtomId) → (module_form (shape t)).run b ≡ read c name → IsModule b t name c
module_is t b c name h =
    after_wanted (faults.BadForm no_line) (module_name (shape t)) named b c name (λ text e h1.
    let found = module_named t text e in
    (found.0, found.1, (text, found.2, names_are text b c name h1))) h

pub module_read : (t : Tree) (b c : Table) (name : AtomId) → IsModule b t name c → (module_form (shape t)).run b ≡ read c name
module_read t b c name (m, is, (text, at, names)) = rw (is, at) (names_read text b c name names)

offer_read : (t : Tree) (b c : Table) (x : Export) (h : IsExport b t x c) → offer t ≡ Some (h.0, x.arity)
offer_read t b c x (text, a, is, names, at) = rw (is, at)

export_read : (t : Tree) (b c : Table) (x : Export) → IsExport b t x c → (named_offer t).run b ≡ read c x
export_read t b c x h = rw (offer_read t b c x h, names_read h.0 b c x.function h.3)

exports_tested : {b c : Table} {ts : List Tree} {xs : List Export} → AreExports b ts xs c → are_offers ts ≡ true
exports_tested no_export = refl
exports_tested (an_export {before = b} {between = d} {t = t} {export = x} one more) = rw (offer_read t b d x one) (exports_tested more)

exports_list_read : {b c : Table} {ts : List Tree} {xs : List Export} → AreExports b ts xs c → (named_offers ts).run b ≡ read c xs
exports_list_read no_export = refl
exports_list_read (an_export {before = b} {between = d} {t = t} {export = x} one more) = rw (export_read t b d x one, exports_list_read more)

pub exports_read : (t : Tree) (b c : Table) (xs : List Export) → IsExports b t xs c → (exports_form (shape t)).run b ≡ read c xs
exports_read t b c xs (es, ts, is, at, are) = rw (is, at) (ap (λ (yes : Bool). (if yes then named_offers ts else bad_form).run b) (exports_tested are) ∙ exports_list_read are)
