use Rattle.bx_listing.proofs.Known.{List, [], ◌++◌, None, inr, sym, ap, ◌∙◌, err_from_is_err_and, place, span_of, shape, forms, Memory, ListedFunction}
use Rattle.bx_listing.proofs.FormLoop.{form_read, form_refuses, form_memory, text_refuses, forms_end, located_next, located_end}
use Rattle.bx_listing.proofs.{Known.ReadsForms, Lemmas.grown_after, Lemmas.form_begun, Lemmas.lacks, Lemmas.refuses_where, Dropped.part_some}
use Rattle.bx_listing.specs.Listing as listings
use Rattle.bx_listing.proofs.reading.functions.Goals as goal

pub returns-in_err-form-clause-read : goal.returns-in_err-form-clause-read
returns-in_err-form-clause-read c =
    let p = err_from_is_err_and c.from_residual.result c.from_residual.ensures.1 in
    rw (p.1, p.2) (refuses_where (ReadsForms (place c.args.reader)) _ _ _ _ (lacks {X = Unit {0}} (λ _. None) (place c.args.reader) (place c.loop-locations.here) _ _ c.loop-locations.invariant.begun c.in_err-form.ensures.form) (text_refuses _ (place c.loop-locations.here) _ _ _ _ (listings.functions [] (forms (place c.args.reader))) c.loop-locations.invariant.grown c.loop-locations.invariant.so_far c.in_err-form.ensures.form))

pub returns-in_err-take_form-clause-read : goal.returns-in_err-take_form-clause-read
returns-in_err-take_form-clause-read c =
    let p = err_from_is_err_and c.from_residual-in_err-take_form.result c.from_residual-in_err-take_form.ensures.1 in
    let begun = form_begun (place c.args.reader) (place c.loop-locations.here) (c.in-Some.form, place c.in-Some.behind) (rw c.in-Some.is at c.in_ok-form.ensures.form) c.loop-locations.invariant.begun in
    rw (p.1, p.2) (refuses_where (ReadsForms (place c.args.reader)) _ _ _ _ (λ e. inr begun) (form_refuses (place c.loop-locations.here) (c.in-Some.form, place c.in-Some.behind) _ _ _ _ _ (listings.functions [] (forms (place c.args.reader))) (rw c.in-Some.is at c.in_ok-form.ensures.form) c.loop-locations.invariant.grown c.loop-locations.invariant.so_far c.in_err-take_form.ensures))

pub returns-in_err-place_form-clause-read : goal.returns-in_err-place_form-clause-read
returns-in_err-place_form-clause-read c =
    let p = err_from_is_err_and c.from_residual-in_err-place_form.result c.from_residual-in_err-place_form.ensures.1 in
    let begun = form_begun (place c.args.reader) (place c.loop-locations.here) (c.in-Some.form, place c.in-Some.behind) (rw c.in-Some.is at c.in_ok-form.ensures.form) c.loop-locations.invariant.begun in
    rw (p.1, p.2) (refuses_where {A = List ListedFunction} (ReadsForms (place c.args.reader)) c.args.atoms.now c.take_form.new.atoms Memory (listings.functions [] (forms (place c.args.reader))) (λ e. inr begun) (form_memory (place c.loop-locations.here) (c.in-Some.form, place c.in-Some.behind) _ _ _ _ _ (listings.functions [] (forms (place c.args.reader))) (rw c.in-Some.is at c.in_ok-form.ensures.form) c.loop-locations.invariant.grown c.loop-locations.invariant.so_far c.in_ok-take_form.ensures))

pub loop-locations-preserved : goal.loop-locations-preserved
loop-locations-preserved c =
    let same = c.behind_annotations-here.ensures.same in
    let some = part_some (span_of c.in-Some.form).line c.loop-locations.functions.items _ (shape c.in-Some.form) c.loop-locations.atoms _ c.in_ok-take_form.ensures in
    let begun = form_begun (place c.args.reader) (place c.loop-locations.here) (c.in-Some.form, place c.in-Some.behind) (rw c.in-Some.is at c.in_ok-form.ensures.form) c.loop-locations.invariant.begun in
    record {
      so_far = sym (same.0 _ _ some) ∙ form_read (place c.loop-locations.here) (c.in-Some.form, place c.in-Some.behind) _ _ _ _ _ (rw c.in-Some.is at c.in_ok-form.ensures.form) c.loop-locations.invariant.so_far c.in_ok-take_form.ensures;
      grown = grown_after (listings.part (span_of c.in-Some.form).line c.loop-locations.functions.items (shape c.in-Some.form)) _ _ _ _ c.loop-locations.invariant.grown c.in_ok-take_form.ensures;
      begun = inr begun;
      placed = λ asked. ap (λ more. c.place_form.new.locations.items ++ more) (sym (same.1 c.place_form.new.locations.here)) ∙ located_next (place c.loop-locations.here) (c.in-Some.form, place c.in-Some.behind) c.loop-locations.locations _ _ (rw c.in-Some.is at c.in_ok-form.ensures.form) (c.in_ok-place_form.ensures asked) (c.loop-locations.invariant.placed asked);
    }

pub returns-clause-read : goal.returns-clause-read
returns-clause-read c = forms_end (place c.loop-locations.here) _ _ _ (rw c.in_default.is at c.in_ok-form.ensures.form) c.loop-locations.invariant.so_far

pub returns-clause-located : goal.returns-clause-located
returns-clause-located c asked = rw c.fitted.ensures (located_end (place c.loop-locations.here) c.loop-locations.locations _ (rw c.in_default.is at c.in_ok-form.ensures.form) (c.loop-locations.invariant.placed asked))
