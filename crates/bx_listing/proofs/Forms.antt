-- Each form takes bytes of the text, so that as many forms as bytes are enough.
use Rattle.bx_listing.proofs.Known.{Reading, Refuses, Reads, Forms, form, Taken, taken, behind_head, IsForm, ReadsForms, ◌≡◌, ℕ, ◌⊎◌, inl, inr, Some, Result}
use Rattle.bx_listing.proofs.Known.{Ok, Err, refl, sym, subst, Gives, Fault, Memory, Tree, Place, takes_memory, Table, Decides-ltb, zero, suc, ◌+◌, ◌<◌, Bool}
use Rattle.bx_listing.proofs.Known.{true, false, length, Option, None, ap, ◌∙◌, add-one, arith, nat_lt, if◌then◌else◌, span_of, form_at, moved, forms_on}
use Rattle.bx_listing.proofs.Known.{some_forms}
use Rattle.bx_listing.specs.Forms.{next_form, forms}
use Rattle.bx_terms.specs.Outcomes.{◌>>=◌}

chosen : (b : Bool) (x y : Tree × Place) → (if b then Some x else None) ≡ Some y → (b ≡ true) × (x ≡ y)
chosen true x y e = (refl, cc)
chosen false x y e = absurd (cc)

moved_shorter : (p : Place) (o : Option (Tree × Place)) (y : Tree × Place) → moved p o ≡ Some y → length y.1.rest < length p.rest
moved_shorter p (Some x) y e =
    let c : (nat_lt (length x.1.rest) (length p.rest) ≡ true) × (x ≡ y) = chosen (nat_lt (length x.1.rest) (length p.rest)) x y e in
    subst (λ z. length z.1.rest < length p.rest) c.1 ((Decides-ltb _ _).0 c.0)
moved_shorter p None y e = absurd (cc)

found_shorter : (p : Place) (r : Result (Option (Tree × Place)) Fault) (y : Tree × Place) → (r >>= λ o. Ok (moved p o)) ≡ Ok (Some y) → length y.1.rest < length p.rest
found_shorter p (Ok o) y e = let h : moved p o ≡ Some y = cc in moved_shorter p o y h
found_shorter p (Err fault) y e = absurd (cc)

pub next_shorter : (p : Place) (y : Tree × Place) → next_form p ≡ Ok (Some y) → length y.1.rest < length p.rest
unfolding next_form
next_shorter p y e = found_shorter p (form_at p) y e

-- more forms than bytes change nothing
abbrev Enough : ℕ → ℕ → Place → Type 0
Enough k j p = length p.rest < k → length p.rest < j → some_forms k p ≡ some_forms j p

on_result : (k j : ℕ) (p : Place) (r : Result (Option (Tree × Place)) Fault) → next_form p ≡ r → ((q : Place) → Enough k j q) → length p.rest < suc k → length p.rest < suc j → forms_on r (some_forms k) ≡ forms_on r (some_forms j)
on_result k j p (Ok (Some x)) e ih a b =
    let shorter : length x.1.rest < length p.rest = next_shorter p x e in
    ap (form (span_of x.0).line x.0) (ih x.1 (omega arith) (omega arith))
on_result k j p _ e ih a b = refl

enough : (k j : ℕ) (p : Place) → Enough k j p
enough zero j p a b = absurd (omega (arith, a))
enough (suc k) zero p a b = absurd (omega (arith, b))
enough (suc k) (suc j) p a b = on_result k j p (next_form p) refl (enough k j) a b

behind : (p : Place) (r : Result (Option (Tree × Place)) Fault) → next_form p ≡ r → forms_on r (some_forms (length p.rest)) ≡ forms_on r forms
unfolding forms
behind p (Ok (Some x)) e =
    let shorter : length x.1.rest < length p.rest = next_shorter p x e in
    ap (form (span_of x.0).line x.0) (enough (length p.rest) (length x.1.rest + 1) x.1 shorter (omega arith))
behind p _ e = refl

-- the forms from a place on are the next one and those behind it
pub forms_next : (p : Place) → forms p ≡ forms_on (next_form p) forms
unfolding forms
forms_next p = ap (λ k. some_forms k p) (add-one (length p.rest)) ∙ behind p (next_form p) refl

pub forms_at : (p : Place) (r : Result (Option (Tree × Place)) Fault) → next_form p ≡ r → forms p ≡ forms_on r forms
forms_at p r e = forms_next p ∙ ap (λ r. forms_on r forms) e

-- Memory that is lacking where forms are read.
pub taken_form : (last : ℕ) (fs : Forms) (f : Taken) → taken last fs ≡ Ok f → IsForm fs
taken_form last (form line t rest) f e = tt
taken_form last _ f e = absurd (cc)

pub head_form : (last : ℕ) (fs behind : Forms) → behind_head last fs ≡ Ok behind → IsForm fs
head_form last (form line t rest) behind e = tt
head_form last _ behind e = absurd (cc)

pub next_is : (p : Place) (x : Tree × Place) → next_form p ≡ Ok (Some x) → IsForm (forms p)
next_is p x e = subst IsForm (sym (forms_at p (Ok (Some x)) e)) tt

-- a form that is read at the first place, or behind one that was
pub form_begun : (first p : Place) (x : Tree × Place) → next_form p ≡ Ok (Some x) → (p ≡ first) ⊎ IsForm (forms first) → IsForm (forms first)
form_begun first p x e (inl same) = subst (λ q. IsForm (forms q)) same (next_is p x e)
form_begun first p x e (inr begun) = begun

-- a text that lacks memory at the first place, or behind a form
pub lacks : {X A : Type 0} (v : X → A) (first p : Place) (fault : Fault) (said : Result A Fault) → (p ≡ first) ⊎ IsForm (forms first) → Gives (takes_memory p) v (Err fault) said → fault ≡ Memory → ReadsForms first
lacks v first p Memory said (inl same) h e = inl (subst takes_memory same h)
lacks v first p Memory said (inr begun) h e = inr begun
lacks v first p _ said here h e = absurd (cc)

pub refuses_where : {A : Type 0} (takes : Type 0) (old new : Table) (fault : Fault) (reading : Reading A) → (fault ≡ Memory → takes) → Refuses (Unit {0}) old new fault reading → Refuses takes old new fault reading
refuses_where takes old new Memory reading k h = (k refl, h.1, h.2)
refuses_where takes old new _ reading k h = h

pub refuses_wider : {A : Type 0} (some more : Type 0) (old new : Table) (fault : Fault) (reading : Reading A) → (some → more) → Refuses some old new fault reading → Refuses more old new fault reading
refuses_wider some more old new Memory reading k h = (k h.0, h.1, h.2)
refuses_wider some more old new _ reading k h = h

pub reads_wider : {X A : Type 0} (some more : Type 0) (view : X → A) (old new : Table) (answer : Result X Fault) (reading : Reading A) → (some → more) → Reads some view old new answer reading → Reads more view old new answer reading
reads_wider some more view old new (Ok x) reading k h = h
reads_wider some more view old new (Err fault) reading k h = refuses_wider some more old new fault reading k h
