use Rattle.bx_listing.proofs.Known.{◌≡◌, ◌⊎◌, inl, inr, subst, Ok, Err, err_from_is_err_and, Gives, place, place_in, takes_memory, from_result, Takes, on_line}
use Rattle.bx_listing.proofs.Known.{shape, module_name, module_form, forms, last_line, ListedModule}
use Rattle.bx_listing.proofs.Lemmas.{refuses_first, refuses_result, reads_same, reads_after, refuses_wider, reads_wider, lined_read}
use Rattle.bx_listing.proofs.FormLoop.{listing-taken, name_read, name_takes, is_named, behind_first}
use Rattle.bx_listing.specs.Listing as listings
use Rattle.bx_listing.proofs.reading.read.Goals as goal

pub returns-in_err-form-clause-read : goal.returns-in_err-form-clause-read
returns-in_err-form-clause-read c =
    let p = err_from_is_err_and c.from_residual.result c.from_residual.ensures.1 in
    let start = place_in c.args.source.text.now 0 in
    let said = listings.taken (last_line c.args.source.text.now) (forms start) in
    let takes : Type 0 = takes_memory start ⊎ listings.IsNamed (forms start) in
    let fault = c.in_err-form.field-0.0 in
    let given : Gives {X = listings.Taken} (takes_memory start) (λ x. x) (Err fault) said = subst (λ q. Gives {X = listings.Taken} (takes_memory q) (λ x. x) (Err fault) (listings.taken (last_line c.args.source.text.now) (forms q))) c.at.ensures c.in_err-form.ensures in
    rw (p.1, p.2) (refuses_first takes _ _ _ (from_result said) (listings.listing_from (last_line c.args.source.text.now)) (refuses_result (takes_memory start) takes _ _ said inl given))

pub returns-in_err-name-clause-read : goal.returns-in_err-name-clause-read
returns-in_err-name-clause-read c =
    let p = err_from_is_err_and c.from_residual-in_err-name.result c.from_residual-in_err-name.ensures.1 in
    let start = place_in c.args.source.text.now 0 in
    let last = last_line c.args.source.text.now in
    let f = listings.taken_at c.in_ok-form.form (place c.in_ok-form.behind) in
    let taken : listings.taken last (forms start) ≡ Ok f = rw c.at.ensures at c.in_ok-form.ensures in
    let takes : Type 0 = takes_memory start ⊎ listings.IsNamed (forms start) in
    let name = on_line f.line (module_form (shape f.tree)) in
    rw (p.1, p.2) (reads_same {X = ListedModule} takes takes (λ x. x) _ _ (Err _) (listings.listing_from last f) (listings.listing last (forms start)) (λ k. k) (listing-taken last (forms start) f _ taken)
    (refuses_first takes _ _ _ name (listings.behind_name last f.rest)
    (refuses_wider (Takes name c.args.atoms.now) takes _ _ _ name (λ h. inr (is_named last (forms start) f taken (name_takes (module_name (shape f.tree)) _ h))) c.in_err-name.ensures)))

pub returns-clause-read : goal.returns-clause-read
returns-clause-read c =
    let start = place_in c.args.source.text.now 0 in
    let last = last_line c.args.source.text.now in
    let f = listings.taken_at c.in_ok-form.form (place c.in_ok-form.behind) in
    let taken : listings.taken last (forms start) ≡ Ok f = rw c.at.ensures at c.in_ok-form.ensures in
    let takes : Type 0 = takes_memory start ⊎ listings.IsNamed (forms start) in
    let some = name_read (module_name (shape f.tree)) _ _ _ (lined_read f.line ((module_form (shape f.tree)).run c.args.atoms.now) _ _ c.in_ok-name.ensures) in
    reads_same takes takes _ _ _ _ (listings.listing_from last f) (listings.listing last (forms start)) (λ k. k) (listing-taken last (forms start) f _ taken)
    (reads_after takes _ _ _ _ _ (on_line f.line (module_form (shape f.tree))) _ (listings.behind_name last f.rest) c.in_ok-name.ensures
    (reads_wider _ takes _ _ _ _ _ (λ h. inr (is_named last (forms start) f taken some)) c.behind_name.ensures.read))

pub returns-clause-located : goal.returns-clause-located
returns-clause-located c asked =
    let start = place_in c.args.source.text.now 0 in
    let last = last_line c.args.source.text.now in
    let form = listings.taken_at c.in_ok-form.form (place c.in_ok-form.behind) in
    let taken : listings.taken last (forms start) ≡ Ok form = rw c.at.ensures at c.in_ok-form.ensures in
    rw (behind_first last (forms start) form taken) (c.behind_name.ensures.located asked)
