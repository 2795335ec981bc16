use Rattle.bx_listing.proofs.Known.{List, Ok, Err, inl, inr, err_from_is_err_and, place, takes_memory, from_result, Takes, on_line, shape, forms, last_line}
use Rattle.bx_listing.proofs.{Known.exports_form, Known.ListedFunction, Known.ListedModule, Known.ReadsForms, Lemmas.refuses_first, Lemmas.refuses_result}
use Rattle.bx_listing.proofs.{Lemmas.taken_form, Lemmas.refuses_wider, FormLoop.exported-reads, FormLoop.listing-reads, FormLoop.exports_located}
use Rattle.bx_listing.specs.Listing as listings
use Rattle.bx_listing.proofs.reading.behind_name.Goals as goal

pub returns-in_err-form-clause-read : goal.returns-in_err-form-clause-read
returns-in_err-form-clause-read c =
    let p = err_from_is_err_and c.from_residual.result c.from_residual.ensures.1 in
    let said = listings.taken (last_line c.args.source.text.now) (forms (place c.args.behind)) in
    rw (p.1, p.2) (refuses_first (ReadsForms (place c.args.behind)) _ _ _ (from_result said) (listings.exported (last_line c.args.source.text.now) c.args.name) (refuses_result (takes_memory (place c.args.behind)) (ReadsForms (place c.args.behind)) _ _ said inl c.in_err-form.ensures))

pub returns-in_err-exports-clause-read : goal.returns-in_err-exports-clause-read
returns-in_err-exports-clause-read c =
    let p = err_from_is_err_and c.from_residual-in_err-exports.result c.from_residual-in_err-exports.ensures.1 in
    let last = last_line c.args.source.text.now in
    let f = listings.taken_at c.in_ok-form.form (place c.in_ok-form.behind) in
    let here : ReadsForms (place c.args.behind) = inr (taken_form last (forms (place c.args.behind)) f c.in_ok-form.ensures) in
    let exports = on_line f.line (exports_form (shape f.tree)) in
    rw (p.1, p.2) (exported-reads {X = ListedModule} (ReadsForms (place c.args.behind)) (λ x. x) _ _ (Err _) last (forms (place c.args.behind)) f c.args.name c.in_ok-form.ensures
    (refuses_first (ReadsForms (place c.args.behind)) _ _ _ exports (listings.behind_exports last c.args.name f.rest)
    (refuses_wider (Takes exports c.args.atoms.now) (ReadsForms (place c.args.behind)) _ _ _ exports (λ h. here) c.in_err-exports.ensures)))

pub returns-in_err-functions-clause-read : goal.returns-in_err-functions-clause-read
returns-in_err-functions-clause-read c =
    let p = err_from_is_err_and c.from_residual-in_err-functions.result c.from_residual-in_err-functions.ensures.1 in
    let last = last_line c.args.source.text.now in
    let f = listings.taken_at c.in_ok-form.form (place c.in_ok-form.behind) in
    let here : ReadsForms (place c.args.behind) = inr (taken_form last (forms (place c.args.behind)) f c.in_ok-form.ensures) in
    rw (p.1, p.2) (listing-reads {X = List ListedFunction} (ReadsForms (place c.args.behind)) (λ x. x) _ _ _ (Err _) last (forms (place c.args.behind)) f c.args.name _ c.in_ok-form.ensures
    c.in_ok-exports.ensures
    (refuses_wider (ReadsForms (place c.in_ok-form.behind)) (ReadsForms (place c.args.behind)) _ _ _ (listings.functions_behind last f.rest) (λ h. here) c.in_err-functions.ensures.read))

pub returns-clause-read : goal.returns-clause-read
returns-clause-read c =
    let last = last_line c.args.source.text.now in
    let f = listings.taken_at c.in_ok-form.form (place c.in_ok-form.behind) in
    rw c.new.ensures (listing-reads {X = List ListedFunction} (ReadsForms (place c.args.behind)) (λ x. x) _ _ _ (Ok _) last (forms (place c.args.behind)) f c.args.name _ c.in_ok-form.ensures
    c.in_ok-exports.ensures
    c.in_ok-functions.ensures.read)

pub returns-clause-located : goal.returns-clause-located
returns-clause-located c asked =
    rw (exports_located (last_line c.args.source.text.now) (forms (place c.args.behind)) (listings.taken_at c.in_ok-form.form (place c.in_ok-form.behind)) c.in_ok-form.ensures) (c.in_ok-functions.ensures.located asked)
