-- The forms of a text are those that the grammar has.
use Rattle.bx_listing.proofs.Known.{Decides-ltb, ◌≡◌, ℕ, zero, suc, ◌<◌, Bool, length, Option, Some, None, Result, Ok, Err, refl, sym, ap, subst, ◌∙◌, arith}
use Rattle.bx_listing.proofs.Known.{if◌then◌else◌, ◌↔◌, Fault, Tree, span_of, Place, form_at, Form, a_form, forms_are, none_are, Forms, form, moved, forms_on}
use Rattle.bx_listing.proofs.{Known.forms, Lemmas.forms_next}
use Rattle.bx_terms.specs.Outcomes.{◌>>=◌}
use Rattle.bx_text.{proofs.Complete.term_le, proofs.Shorter.next_shorter}
use Rattle.bx_listing.specs.{Forms.next_form, FormsOf.AreForms, FormsOf.none_follows, FormsOf.one_follows, FormsOf.is_refused}

form_shorter : {d : ℕ} {p q : Place} {t : Tree} → Form d p t q → length q.rest < length p.rest
form_shorter (a_form {p = p} {r = r} {l = l} {m = m} n t s c) = omega (arith, next_shorter p l n, term_le t, next_shorter r m s)

forms_at : (p : Place) (r : Result (Option (Tree × Place)) Fault) → form_at p ≡ r → forms p ≡ forms_on (r >>= λ o. Ok (moved p o)) forms
unfolding next_form
forms_at p r e = forms_next p ∙ ap (λ r. forms_on (r >>= λ o. Ok (moved p o)) forms) e

-- a form is kept, since it takes bytes
first_is : (p q : Place) (t : Tree) → Form 256 p t q → forms p ≡ form (span_of t).line t (forms q)
first_is p q t f =
    forms_at p (Ok (Some (t, q))) ((forms_are p t q).1 f)
    ∙ ap (λ (keeps : Bool). forms_on (Ok (if keeps then Some (t, q) else None)) forms) ((Decides-ltb (length q.rest) (length p.rest)).1 (form_shorter f))

forms_so : (k : ℕ) (p : Place) → length p.rest < k → AreForms p (forms p)
forms_so zero p h = absurd (omega (arith, h))
forms_so (suc k) p h = by (forms_so k) (form_at p) refl
  where
    by : ((q : Place) → length q.rest < k → AreForms q (forms q)) → (r : Result (Option (Tree × Place)) Fault) → form_at p ≡ r → AreForms p (forms p)
    by go (Err fault) e = subst (AreForms p) (sym (forms_at p (Err fault) e)) (is_refused e)
    by go (Ok None) e = subst (AreForms p) (sym (forms_at p (Ok None) e)) (none_follows ((none_are p).0 e))
    by go (Ok (Some x)) e =
        let f : Form 256 p x.0 x.1 = (forms_are p x.0 x.1).0 e in
        let shorter : length x.1.rest < length p.rest = form_shorter f in
        subst (AreForms p) (sym (first_is p x.1 x.0 f)) (one_follows f (go x.1 (omega arith)))

forms_same : {p : Place} {fs : Forms} → AreForms p fs → forms p ≡ fs
forms_same (none_follows {p = p} b) = forms_at p (Ok None) ((none_are p).1 b)
forms_same (one_follows {p = p} {q = q} {t = t} f rest) = first_is p q t f ∙ ap (form (span_of t).line t) (forms_same rest)
forms_same (is_refused {p = p} {fault = fault} e) = forms_at p (Err fault) e

pub forms_are_those : (p : Place) (fs : Forms) → (forms p ≡ fs) ↔ AreForms p fs
forms_are_those p fs = (λ e. subst (AreForms p) e (forms_so (suc (length p.rest)) p (omega arith)), λ are. forms_same are)
