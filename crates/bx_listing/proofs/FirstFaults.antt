-- The first fault of forms that are no listing.
use Rattle.bx_listing.proofs.Known.{Reading, ◌≡◌, ℕ, Bool, true, false, List, [], ◌∷◌, ◌++◌, Ok, Err, codes, pos, refl, sym, ap, subst, ◌∙◌, if◌then◌else◌}
use Rattle.bx_listing.proofs.Known.{AtomId, Fault, numbered, Span, Tree, integer, atom, tuple, list, nil, cons, place_in, Export, Table, Outcome, read, refused}
use Rattle.bx_listing.proofs.Known.{and_then, ◌>>=◌, give, from_result, named, with_line, lined, on_line, shape, module_form, exports_form, is_attributes}
use Rattle.bx_listing.proofs.Known.{is_labels, Forms, ends, broken, form, forms, last_line, ListedFunction, ListedModule, taken, and_so, form_part, part}
use Rattle.bx_listing.proofs.Known.{functions, behind_labels, listed, behind_exports, behind_name, listing}
use Rattle.bx_listing.proofs.Lemmas.{and_then_assoc, Written, an_integer_term, an_atom_term, a_tuple_term, a_list_term, no_elements, an_element_first, no_rest}
use Rattle.bx_listing.proofs.{Lemmas.FormsWritten, Lemmas.forms_written, ListedOperands.names_read, Listed.listing_is, Listed.listing_read}
use Rattle.bx_terms.{specs.AtomTable.IsAtomTable, specs.FixedAtoms.fixed_atoms, specs.Naming.atom as numbered_atom, proofs.AtomLaws.fixed_in}
use Rattle.std.specs.Str.{chars}
use Rattle.bx_listing.specs.Refused.{followed, Begins, OnLine, IsWrong, IsFirstFault}
use Rattle.bx_terms.specs.declared.faults.Fault.TheVariants as faults

abbrev WasRead : {A : Type 0} → Outcome A → Type 0
WasRead (read t x) = Unit {0}
WasRead (refused t fault) = ⊥

abbrev WasRefused : {A : Type 0} → Outcome A → Type 0
WasRefused (read t x) = ⊥
WasRefused (refused t fault) = Unit {0}

-- the forms can be gone on with so that all are read
abbrev CanEnd : {A : Type 0} → (Forms → Outcome A) → List (ℕ × Tree) → Type 0
CanEnd reading fs = (rest : Forms) × FormsWritten rest × WasRead (reading (followed fs rest))

abbrev GoesWrong : {A : Type 0} → (Forms → Outcome A) → ℕ → Forms → Fault → Type 0
GoesWrong reading last ends fault = fault ≡ faults.BadForm last
GoesWrong reading last (broken refusal) fault = fault ≡ refusal
GoesWrong reading last (form line t rest) fault = OnLine line fault × ((more : Forms) → WasRefused (reading (form line t more)))

-- the good forms and the first one at fault, for what reads them
record Split {A : Type 0} (reading : Forms → Outcome A) (last : ℕ) (all : Forms) (fault : Fault) : Type 0 where
  good : List (ℕ × Tree)
  rest : Forms
  all_are : all ≡ followed good rest
  can_end : CanEnd reading good
  wrong : GoesWrong (λ f. reading (followed good f)) last rest fault

wrong_same : {A : Type 0} (one two : Forms → Outcome A) (last : ℕ) (rest : Forms) (fault : Fault) → ((f : Forms) → one f ≡ two f) → GoesWrong two last rest fault → GoesWrong one last rest fault
wrong_same one two last (form line t rest) fault same h = (h.0, λ more. subst WasRefused (sym (same (form line t more))) (h.1 more))
wrong_same one two last _ fault same h = h

-- after a good form
further : {A : Type 0} (one two : Forms → Outcome A) (last line : ℕ) (t : Tree) (rest : Forms) (fault : Fault) → ((f : Forms) → one (form line t f) ≡ two f) → Split two last rest fault → Split one last (form line t rest) fault
further one two last line t rest fault same s = record {
  good = (line, t) ∷ s.good;
  rest = s.rest;
  all_are = ap (form line t) s.all_are;
  can_end = (s.can_end.0, s.can_end.1, subst WasRead (sym (same (followed s.good s.can_end.0))) s.can_end.2);
  wrong = wrong_same (λ f. one (form line t (followed s.good f))) (λ f. two (followed s.good f)) last s.rest fault (λ f. same (followed s.good f)) s.wrong;
}

-- at the first form
at_once : {A : Type 0} (reading : Forms → Outcome A) (last : ℕ) (rest : Forms) (fault : Fault) → CanEnd reading [] → GoesWrong reading last rest fault → Split reading last rest fault
at_once reading last rest fault can h = record { good = []; rest = rest; all_are = refl; can_end = can; wrong = h }

fault_same : {A : Type 0} (b c : Table) (one two : Fault) → ◌≡◌ {A = Outcome A} (refused b one) (refused c two) → two ≡ one
fault_same b c one two e = cc

-- a refusal of a form names its line
with_line_on : (line : ℕ) (fault : Fault) → OnLine line (with_line line fault)
with_line_on line (faults.TooManyAtoms at) = refl
with_line_on line _ = refl

lined_on : {A : Type 0} (line : ℕ) (o : Outcome A) (c : Table) (fault : Fault) → lined line o ≡ refused c fault → OnLine line fault
lined_on line (read b x) c fault e = absurd (cc)
lined_on {A = A} line (refused b refusal) c fault e = subst (OnLine line) (sym (fault_same {A = A} b c (with_line line refusal) fault e)) (with_line_on line refusal)

refused_so : {A : Type 0} {o : Outcome A} (b : Table) (fault : Fault) → o ≡ refused b fault → WasRefused o
refused_so b fault e = subst WasRefused (sym e) tt

-- the listing, once these functions were read
abbrev behind_functions : AtomId → List Export → List ListedFunction → Forms → Reading ListedModule
behind_functions name exports done rest = functions done rest >>= λ fs. give (record { name = name; exports = exports; functions = fs })

-- the next form is read or refused; what follows it is read on
at_form : {X A : Type 0} (reads : Forms → Outcome A) (next : X → Forms → Reading A) (last line : ℕ) (t : Tree) (rest : Forms) (o : Outcome X) (c : Table) (fault : Fault)
    → ((f : Forms) → reads (form line t f) ≡ and_then o (λ x. next x f)) → ((d : Table) (refusal : Fault) → o ≡ refused d refusal → OnLine line refusal) → CanEnd reads []
    → ((d : Table) (x : X) → (next x rest).run d ≡ refused c fault → Split (λ f. (next x f).run d) last rest fault) → reads (form line t rest) ≡ refused c fault → Split reads last (form line t rest) fault
at_form reads next last line t rest (read d x) c fault same on can go h = further reads (λ f. (next x f).run d) last line t rest fault same (go d x (sym (same rest) ∙ h))
at_form {A = A} reads next last line t rest (refused d refusal) c fault same on can go h =
    at_once reads last (form line t rest) fault can
    (subst (OnLine line) (sym (fault_same {A = A} d c refusal fault (sym (same rest) ∙ h))) (on d refusal refl), λ more. refused_so d refusal (same more))

listed_split : (last : ℕ) (name : AtomId) (exports : List Export) (all : Forms) (done : List ListedFunction) (b c : Table) (fault : Fault) → (behind_functions name exports done all).run b ≡ refused c fault
    → Split (λ f. (behind_functions name exports done f).run b) last all fault
listed_split last name exports ends done b c fault h = absurd (cc)
listed_split last name exports (broken refusal) done b c fault h =
    at_once (λ f. (behind_functions name exports done f).run b) last (broken refusal) fault (ends, tt, tt) (fault_same {A = ListedModule} b c refusal fault h)
listed_split last name exports (form line t rest) done b c fault h =
    at_form (λ f. (behind_functions name exports done f).run b) (behind_functions name exports) last line t rest ((part line done (shape t)).run b) c fault
    (λ f. sym (and_then_assoc ((part line done (shape t)).run b) (λ done. functions done f) (λ fs. give (record { name = name; exports = exports; functions = fs }))))
    (lined_on line ((form_part line done (shape t)).run b)) (ends, tt, tt) (λ d more. listed_split last name exports rest more d c fault) h

-- where a form must be there
at_first : {X A : Type 0} (reads : Forms → Outcome A) (o : ℕ → Tree → Outcome X) (next : X → Forms → Reading A) (last : ℕ) (all : Forms) (b c : Table) (fault : Fault)
    → reads ends ≡ refused b (faults.BadForm last) → ((refusal : Fault) → reads (broken refusal) ≡ refused b refusal) → ((line : ℕ) (t : Tree) (f : Forms) → reads (form line t f) ≡ and_then (o line t) (λ x. next x f))
    → ((line : ℕ) (t : Tree) (d : Table) (refusal : Fault) → o line t ≡ refused d refusal → OnLine line refusal) → CanEnd reads []
    → ((d : Table) (x : X) (rest : Forms) → (next x rest).run d ≡ refused c fault → Split (λ f. (next x f).run d) last rest fault) → reads all ≡ refused c fault → Split reads last all fault
at_first {A = A} reads o next last ends b c fault none stopped same on can go h = at_once reads last ends fault can (fault_same {A = A} b c (faults.BadForm last) fault (sym none ∙ h))
at_first {A = A} reads o next last (broken refusal) b c fault none stopped same on can go h =
    at_once reads last (broken refusal) fault can (fault_same {A = A} b c refusal fault (sym (stopped refusal) ∙ h))
at_first reads o next last (form line t rest) b c fault none stopped same on can go h = at_form reads next last line t rest (o line t) c fault (same line t) (on line t) can (λ d x. go d x rest) h

-- forms that end a listing
no_span : Span
no_span = record { from = 0; to = 0; line = 0 }

abbrev pair : List ℕ → Tree → Tree
pair word t = tuple no_span (cons (atom no_span word) (cons t nil))

pair_written : {word : List ℕ} {t : Tree} → Written t → Written (pair word t)
pair_written w = a_tuple_term (an_element_first an_atom_term (an_element_first w no_elements))

abbrev some_labels : Tree
some_labels = pair (codes "labels") (integer no_span (pos 0))

abbrev no_exports : Tree
no_exports = pair (codes "exports") (list no_span nil)

abbrev some_module : Tree
some_module = pair (codes "module") (atom no_span (codes "true"))

-- a form behind the exports, which may be attributes, and else is the labels
abbrev head_form : ℕ → Bool → Bool → Table → Outcome Bool
head_form line true labels b = read b true
head_form line false true b = read b false
head_form line false false b = refused b (faults.BadForm line)

head_on : (line : ℕ) (attributes labels : Bool) (b d : Table) (refusal : Fault) → head_form line attributes labels b ≡ refused d refusal → OnLine line refusal
head_on line false false b d refusal e = subst (OnLine line) (sym (fault_same {A = Bool} b d (faults.BadForm line) refusal e)) refl
head_on line _ _ b d refusal e = absurd (cc)

labels_same : {A : Type 0} (next : Bool → Forms → Reading A) (line : ℕ) (labels : Bool) (f : Forms) (b : Table)
    → (from_result (if labels then Ok f else Err (faults.BadForm line)) >>= next false).run b ≡ and_then (head_form line false labels b) (λ x. next x f)
labels_same next line true f b = refl
labels_same next line false f b = refl

labels_split : (last : ℕ) (name : AtomId) (exports : List Export) (all : Forms) (b c : Table) (fault : Fault) → (from_result (and_so (taken last all) behind_labels) >>= listed name exports).run b ≡ refused c fault
    → Split (λ f. (from_result (and_so (taken last f) behind_labels) >>= listed name exports).run b) last all fault
labels_split last name exports all b c fault =
    at_first (λ f. (from_result (and_so (taken last f) behind_labels) >>= listed name exports).run b) (λ line t. head_form line false (is_labels (shape t)) b) (λ _. listed name exports) last all b c fault refl (λ r. refl)
    (λ line t f. labels_same (λ _. listed name exports) line (is_labels (shape t)) f b) (λ line t. head_on line false (is_labels (shape t)) b) (form 0 some_labels ends, (pair_written an_integer_term, tt), tt)
    (λ d x rest. listed_split last name exports rest [] d c fault)

abbrev behind_form : ℕ → AtomId → List Export → Bool → Forms → Reading ListedModule
behind_form last name exports true f = from_result (and_so (taken last f) behind_labels) >>= listed name exports
behind_form last name exports false f = listed name exports f

head_split : (last : ℕ) (name : AtomId) (exports : List Export) (all : Forms) (b c : Table) (fault : Fault) → (behind_exports last name all exports).run b ≡ refused c fault
    → Split (λ f. (behind_exports last name f exports).run b) last all fault
head_split last name exports all b c fault =
    at_first (λ f. (behind_exports last name f exports).run b) (λ line t. head_form line (is_attributes (shape t)) (is_labels (shape t)) b) (behind_form last name exports) last all b c fault refl (λ r. refl)
    (λ line t f. same line t (is_attributes (shape t)) f) (λ line t. head_on line (is_attributes (shape t)) (is_labels (shape t)) b) (form 0 some_labels ends, (pair_written an_integer_term, tt), tt) go
  where
    same : (line : ℕ) (t : Tree) (attributes : Bool) (f : Forms)
        → (from_result (if attributes then and_so (taken last f) behind_labels else behind_labels (record { line = line; tree = t; rest = f })) >>= listed name exports).run b
        ≡ and_then (head_form line attributes (is_labels (shape t)) b) (λ x. behind_form last name exports x f)
    same line t true f = refl
    same line t false f = labels_same (behind_form last name exports) line (is_labels (shape t)) f b

    go : (d : Table) (x : Bool) (rest : Forms) → (behind_form last name exports x rest).run d ≡ refused c fault → Split (λ f. (behind_form last name exports x f).run d) last rest fault
    go d true rest = labels_split last name exports rest d c fault
    go d false rest = listed_split last name exports rest [] d c fault

exports_split : (last : ℕ) (name : AtomId) (all : Forms) (b c : Table) (fault : Fault) → (behind_name last all name).run b ≡ refused c fault → Split (λ f. (behind_name last f name).run b) last all fault
exports_split last name all b c fault =
    at_first (λ f. (behind_name last f name).run b) (λ line t. (on_line line (exports_form (shape t))).run b) (λ exports f. behind_exports last name f exports) last all b c fault refl (λ r. refl)
    (λ line t f. refl) (λ line t. lined_on line ((exports_form (shape t)).run b)) (form 0 no_exports (form 0 some_labels ends), (pair_written (a_list_term no_rest), (pair_written an_integer_term, tt)), tt)
    (λ d exports rest. head_split last name exports rest d c fault)

-- a table of atoms holds `true`
true_named : (b : Table) → IsAtomTable b → (named (codes "true")).run b ≡ read b (numbered_atom 0)
unfolding fixed_atoms chars
true_named b table = names_read (codes "true") b b (numbered_atom 0) (ap (λ n. numbered n b (codes "true")) (fixed_in b (numbered_atom 0) (codes "true") table refl).1)

listing_split : (last : ℕ) (all : Forms) (b c : Table) (fault : Fault) → IsAtomTable b → (listing last all).run b ≡ refused c fault → Split (λ f. (listing last f).run b) last all fault
listing_split last all b c fault table =
    at_first (λ f. (listing last f).run b) (λ line t. (on_line line (module_form (shape t))).run b) (λ name f. behind_name last f name) last all b c fault refl (λ r. refl)
    (λ line t f. refl) (λ line t. lined_on line ((module_form (shape t)).run b)) can (λ d name rest. exports_split last name rest d c fault)
  where
    can : CanEnd (λ f. (listing last f).run b) []
    can = (
      form 0 some_module (form 0 no_exports (form 0 some_labels ends)),
      (pair_written an_atom_term, (pair_written (a_list_term no_rest), (pair_written an_integer_term, tt))),
      rw (true_named b table) tt,
    )

followed_written : (fs : List (ℕ × Tree)) (rest more : Forms) → FormsWritten (followed fs rest) → FormsWritten more → FormsWritten (followed fs more)
followed_written [] rest more w v = v
followed_written (f ∷ fs) rest more w v = (w.0, followed_written fs rest more w.1 v)

followed_one : (fs : List (ℕ × Tree)) (line : ℕ) (t : Tree) (more : Forms) → followed (fs ++ (line, t) ∷ []) more ≡ followed fs (form line t more)
followed_one [] line t more = refl
followed_one (f ∷ fs) line t more = ap (form f.0 f.1) (followed_one fs line t more)

begins : (last : ℕ) (fs : List (ℕ × Tree)) (b : Table) (rest : Forms) → FormsWritten (followed fs rest) → WasRead ((listing last (followed fs rest)).run b) → Begins b fs
begins last fs b rest w h = by ((listing last (followed fs rest)).run b) refl h
  where
    by : (o : Outcome ListedModule) → (listing last (followed fs rest)).run b ≡ o → WasRead o → Begins b fs
    by (read c code) e h = (rest, code, c, listing_is last (followed fs rest) code b c w e)
    by (refused c fault) e h = absurd h

begins_none : (last : ℕ) (fs : List (ℕ × Tree)) (line : ℕ) (t : Tree) (b : Table) → ((more : Forms) → WasRefused ((listing last (followed fs (form line t more))).run b)) → Begins b (fs ++ (line, t) ∷ []) → ⊥
begins_none last fs line t b never (more, code, c, is) =
    subst WasRefused (ap (λ f. (listing last f).run b) (sym (followed_one fs line t more)) ∙ listing_read last is) (never more)

is_wrong : (last : ℕ) (fs : List (ℕ × Tree)) (rest : Forms) (fault : Fault) (b : Table) → GoesWrong (λ f. (listing last (followed fs f)).run b) last rest fault → IsWrong b last fs rest fault
is_wrong last fs (form line t rest) fault b h = (h.0, begins_none last fs line t b h.1)
is_wrong last fs _ fault b h = h

first_fault : (last : ℕ) (all : Forms) (b c : Table) (fault : Fault) → IsAtomTable b → FormsWritten all → (listing last all).run b ≡ refused c fault → IsFirstFault b last all fault
first_fault last all b c fault table w h =
    let s : Split (λ f. (listing last f).run b) last all fault = listing_split last all b c fault table h in (
      s.good,
      s.rest,
      s.all_are,
      begins last s.good b s.can_end.0 (followed_written s.good s.rest s.can_end.0 (subst FormsWritten s.all_are w) s.can_end.1) s.can_end.2,
      is_wrong last s.good s.rest fault b s.wrong,
    )

pub first_faults_are : (text : List ℕ) (before behind : Table) (fault : Fault) → IsAtomTable before → (listing (last_line text) (forms (place_in text 0))).run before ≡ refused behind fault
    → IsFirstFault before (last_line text) (forms (place_in text 0)) fault
first_faults_are text before behind fault table h = first_fault (last_line text) (forms (place_in text 0)) before behind fault table (forms_written (place_in text 0)) h
