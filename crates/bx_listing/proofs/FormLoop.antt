-- The functions of a listing, form by form.
use Rattle.bx_listing.proofs.Known.{with_form, with_form_item, ap, ◌∙◌, arith, ◌==◌, is_some, IsSome, Fault, Op, Operand, Table, Answers, Shape, Item, read_as}
use Rattle.bx_listing.proofs.Known.{ListedFunction, with_item, ◌≡◌, ℕ, zero, suc, ◌-◌, ◌<◌, true, false, List, [], ◌∷◌, ◌++◌, length, get_or, slice_set, Option}
use Rattle.bx_listing.proofs.Known.{Some, None, Result, refl, ListedModule, Taken, taken, behind_head, functions, behind_exports, behind_name, listing, read}
use Rattle.bx_listing.proofs.Known.{◌>>=◌, give, from_result, named, on_line, Takes, Reads, shape, Forms, form, head, module_name, exports_form, Ok, sym, subst}
use Rattle.bx_listing.proofs.Known.{AtomId, Export, next_form, forms, Location, Located, located, append_assoc, append-nil, Tree, Place, Err, Gives, Memory}
use Rattle.bx_listing.proofs.Known.{span_of, Outcome, Begins, Reading, and_then, Refuses, Refused, part}
use Rattle.bx_listing.proofs.Lemmas.{reads_same, reads_after, reads_given, and_then_assoc, forms_at, refuses_first, refuses_left, refuses_wider, memory_before}
use Rattle.bx_listing.proofs.Lemmas.{grown_after}
use Rattle.bx_listing.specs.Locations.{own, moved, located_behind, located_exports, locations, passed}
use Rattle.bx_listing.specs.Listing.{functions_behind, exported, listing_from, IsNamed}

-- the reading of the next form, and of those behind it
abbrev pub form_first : List ListedFunction → Tree → Place → Reading (List ListedFunction)
form_first done t q = part (span_of t).line done (shape t) >>= λ more. functions more (forms q)

pub form_read : (p : Place) (x : Tree × Place) (done more : List ListedFunction) (t mid : Table) (whole : Outcome (List ListedFunction)) → next_form p ≡ Ok (Some x) → (functions done (forms p)).run t ≡ whole → (part (span_of x.0).line done (shape x.0)).run t ≡ read mid more → (functions more (forms x.1)).run mid ≡ whole
form_read p x done more t mid whole e so_far h =
    let stepped : (form_first done x.0 x.1).run t ≡ (functions more (forms x.1)).run mid = ap (λ o. and_then o (λ more. functions more (forms x.1))) h in
    sym stepped ∙ (sym (ap (λ fs. (functions done fs).run t) (forms_at p (Ok (Some x)) e)) ∙ so_far)

pub form_refuses : (p : Place) (x : Tree × Place) (done : List ListedFunction) (old t new : Table) (fault : Fault) (whole : Reading (List ListedFunction)) → next_form p ≡ Ok (Some x) → Begins old t → (functions done (forms p)).run t ≡ whole.run old → Refused t new fault (part (span_of x.0).line done (shape x.0)) → Refuses (Unit {0}) old new fault whole
form_refuses p x done old t new fault whole e grown so_far h =
    let first : Refuses (Unit {0}) t new fault (form_first done x.0 x.1) = refuses_first (Unit {0}) t new fault (part (span_of x.0).line done (shape x.0)) (λ more. functions more (forms x.1)) (refuses_wider _ (Unit {0}) t new fault (part (span_of x.0).line done (shape x.0)) (λ k. tt) h) in
    refuses_left old t new fault (form_first done x.0 x.1) whole grown (sym (ap (λ fs. (functions done fs).run t) (forms_at p (Ok (Some x)) e)) ∙ so_far) first

-- memory that runs out once a form was read
pub form_memory : (p : Place) (x : Tree × Place) (done more : List ListedFunction) (old t mid : Table) (whole : Reading (List ListedFunction)) → next_form p ≡ Ok (Some x) → Begins old t → (functions done (forms p)).run t ≡ whole.run old → (part (span_of x.0).line done (shape x.0)).run t ≡ read mid more → Refuses (Unit {0}) old mid Memory whole
form_memory p x done more old t mid whole e grown so_far h =
    let grown_on : Begins old mid = grown_after (part (span_of x.0).line done (shape x.0)) more old t mid grown h in
    refuses_left old mid mid Memory (functions more (forms x.1)) whole grown_on (form_read p x done more t mid (whole.run old) e so_far h) (memory_before mid (functions more (forms x.1)))

text_refused : (takes : Type 0) (p : Place) (done : List ListedFunction) (t : Table) (fault : Fault) → Gives {X = Unit {0}} takes (λ _. None) (Err fault) (next_form p) → Refuses (Unit {0}) t t fault (functions done (forms p))
text_refused takes p done t Memory h = memory_before t (functions done (forms p))
text_refused takes p done t _ h = ap (λ fs. (functions done fs).run t) (forms_at p _ h)

pub text_refuses : (takes : Type 0) (p : Place) (done : List ListedFunction) (old t : Table) (fault : Fault) (whole : Reading (List ListedFunction)) → Begins old t → (functions done (forms p)).run t ≡ whole.run old → Gives {X = Unit {0}} takes (λ _. None) (Err fault) (next_form p) → Refuses (Unit {0}) old t fault whole
text_refuses takes p done old t fault whole grown so_far h =
    refuses_left old t t fault (functions done (forms p)) whole grown so_far (text_refused takes p done t fault h)

pub forms_end : (p : Place) (done : List ListedFunction) (t : Table) (whole : Outcome (List ListedFunction)) → next_form p ≡ Ok None → (functions done (forms p)).run t ≡ whole → whole ≡ read t done
forms_end p done t whole e so_far = sym so_far ∙ ap (λ fs. (functions done fs).run t) (forms_at p (Ok None) e)

-- Where items stand, form by form.
pub located_next : (p : Place) (x : Tree × Place) (l new : Located) (whole : List (Option Location)) → next_form p ≡ Ok (Some x) → new ≡ passed l (shape x.0)
    → l.items ++ located l.here (forms p) ≡ whole → new.items ++ located new.here (forms x.1) ≡ whole
located_next p x l new whole e step so_far =
    ap (λ (n : Located). n.items ++ located n.here (forms x.1)) step
    ∙ (append_assoc l.items (own l.here (shape x.0)) (located (moved l.here (shape x.0)) (forms x.1))
    ∙ (ap (λ fs. l.items ++ located l.here fs) (sym (forms_at p (Ok (Some x)) e)) ∙ so_far))

pub located_end : (p : Place) (l : Located) (whole : List (Option Location)) → next_form p ≡ Ok None → l.items ++ located l.here (forms p) ≡ whole → l.items ≡ whole
located_end p l whole e so_far = sym (append-nil l.items) ∙ (ap (λ fs. l.items ++ located l.here fs) (sym (forms_at p (Ok None) e)) ∙ so_far)

-- behind the first form, and behind the exports
pub behind_first : (last : ℕ) (all : Forms) (f : Taken) → taken last all ≡ Ok f → locations last all ≡ located_exports last f.rest
behind_first last (form line t rest) f e = cc
behind_first last _ f e = absurd (cc)

pub exports_located : (last : ℕ) (all : Forms) (f : Taken) → taken last all ≡ Ok f → located_exports last all ≡ located_behind (behind_head last f.rest)
exports_located last (form line t rest) f e = cc
exports_located last _ f e = absurd (cc)

-- The first forms of a listing.
pub listing-taken : (last : ℕ) (all : Forms) (f : Taken) (t : Table) → taken last all ≡ Ok f → (listing_from last f).run t ≡ (listing last all).run t
listing-taken last all f t e = sym (ap (λ r. (from_result r >>= listing_from last).run t) e)

-- what was named, or took memory to be named, is a name
pub name_read : (o : Option (List ℕ)) (b c : Table) (name : AtomId) → (head o >>= named).run b ≡ read c name → IsSome o
name_read (Some text) b c name e = refl
name_read None b c name e = absurd (cc)

pub name_takes : (o : Option (List ℕ)) (b : Table) → Takes (head o >>= named) b → IsSome o
name_takes (Some text) b e = refl
name_takes None b e = absurd (let clash : false ≡ true = e in cc)

pub is_named : (last : ℕ) (all : Forms) (f : Taken) → taken last all ≡ Ok f → IsSome (module_name (shape f.tree)) → IsNamed all
is_named last (form line t rest) f e h =
    let same : module_name (shape f.tree) ≡ module_name (shape t) = cc in
    subst IsSome same h
is_named last _ f e h = absurd (cc)

-- the functions behind the exports make the listing
abbrev pub listed_module : AtomId → List Export → List ListedFunction → ListedModule
listed_module name exports fs = record { name = name; exports = exports; functions = fs }

listing_behind : {X : Type 0} (takes : Type 0) (view : X → List ListedFunction) (old new : Table) (answer : Result X Fault) (last : ℕ) (name : AtomId) (rest : Forms) (exports : List Export)
    → Reads takes view old new answer (functions_behind last rest) → Reads takes (λ x. listed_module name exports (view x)) old new answer (behind_exports last name rest exports)
listing_behind takes view old new answer last name rest exports h =
    reads_same takes takes (λ x. listed_module name exports (view x)) old new answer (functions_behind last rest >>= λ fs. give (listed_module name exports fs)) (behind_exports last name rest exports) (λ k. k)
    (sym (and_then_assoc ((from_result (behind_head last rest)).run old) (functions []) (λ fs. give (listed_module name exports fs))))
    (reads_given takes view (listed_module name exports) old new answer (functions_behind last rest) h)

-- a listing of which the form behind its name was taken
pub exported-reads : {X : Type 0} (takes : Type 0) (view : X → ListedModule) (old new : Table) (answer : Result X Fault) (last : ℕ) (all : Forms) (f : Taken) (name : AtomId)
    → taken last all ≡ Ok f → Reads takes view old new answer (exported last name f) → Reads takes view old new answer (behind_name last all name)
exported-reads takes view old new answer last all f name e h =
    reads_same takes takes view old new answer (exported last name f) (behind_name last all name) (λ k. k) (sym (ap (λ r. (from_result r >>= exported last name).run old) e)) h

-- and of which the exports were read
pub listing-reads : {X : Type 0} (takes : Type 0) (view : X → List ListedFunction) (old mid new : Table) (answer : Result X Fault) (last : ℕ) (all : Forms) (f : Taken) (name : AtomId) (exports : List Export)
    → taken last all ≡ Ok f → (on_line f.line (exports_form (shape f.tree))).run old ≡ read mid exports → Reads takes view mid new answer (functions_behind last f.rest)
    → Reads takes (λ x. listed_module name exports (view x)) old new answer (behind_name last all name)
listing-reads takes view old mid new answer last all f name exports e good h =
    exported-reads takes (λ x. listed_module name exports (view x)) old new answer last all f name e
    (reads_after takes (λ x. listed_module name exports (view x)) old mid new answer (on_line f.line (exports_form (shape f.tree))) exports (behind_exports last name f.rest) good
    (listing_behind takes view mid new answer last name f.rest exports h))

-- The last of the functions.
abbrev pub with_added : ℕ → Item → ListedFunction → ListedFunction
with_added line item f = record f { items = f.items ++ record { line = line; item = item } ∷ [] }

pub set_last : (line : ℕ) (item : Item) (fs : List ListedFunction) (f : ListedFunction) → 0 < length fs → f ≡ get_or fs (length fs - 1) f → slice_set fs (length fs - 1) (with_added line item f) ≡ with_item line item fs
set_last line item [] f some at = absurd (omega (arith, some))
set_last line item (g ∷ []) f some at = ap (λ h. with_added line item h ∷ []) at
set_last line item (g ∷ h ∷ fs) f some at =
    let next : length (g ∷ h ∷ fs) - 1 ≡ suc (length (h ∷ fs) - 1) = omega arith in
    let here : f ≡ get_or (h ∷ fs) (length (h ∷ fs) - 1) f = at ∙ ap (λ n. get_or (g ∷ h ∷ fs) n f) next in
    ap (λ n. slice_set (g ∷ h ∷ fs) n (with_added line item f)) next ∙ ap (λ more. g ∷ more) (set_last line item (h ∷ fs) f (omega arith) here)

-- an item of the last function, where there is one
pub in_last : {X : Type 0} (view : X → List ListedFunction) (old new : Table) (answer : Result X Fault) (line : ℕ) (done : List ListedFunction) (s : Shape) → 0 < length done
    → Answers view old new answer (with_form_item line done s) → Answers view old new answer (with_form line done s)
in_last view old new answer line [] s some h = absurd (omega (arith, some))
in_last view old new answer line (f ∷ fs) s some h = h

-- an opcode is that of an item
pub read_some : (op : Option Op) (operands : List Operand) → IsSome op → is_some (read_as (op, operands)) ≡ true
read_some (Some op) operands h = refl
read_some None operands h = absurd (let clash : false ≡ true = h in cc)

pub not_none : (n : ℕ) → (n == 0) ≡ false → 0 < n
not_none zero h = absurd (let clash : true ≡ false = h in cc)
not_none (suc n) h = omega arith
