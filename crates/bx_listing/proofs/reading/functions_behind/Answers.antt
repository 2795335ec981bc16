use Rattle.bx_listing.proofs.Known.{[], inr, sym, ap, err_from_is_err_and, place, from_result, ◌>>=◌, forms, last_line, ReadsForms}
use Rattle.bx_listing.proofs.Lemmas.{refuses_first, refuses_result, reads_same, head_form}
use Rattle.bx_listing.specs.Listing as listings
use Rattle.bx_listing.proofs.reading.functions_behind.Goals as goal

pub returns-in_err-behind-clause-read : goal.returns-in_err-behind-clause-read
returns-in_err-behind-clause-read c =
    let p = err_from_is_err_and c.from_residual.result c.from_residual.ensures.1 in
    let said = listings.behind_head (last_line c.args.source.text.now) (forms (place c.args.behind)) in
    rw (p.1, p.2) (refuses_first (ReadsForms (place c.args.behind)) _ _ _ (from_result said) (listings.functions []) (refuses_result (ReadsForms (place c.args.behind)) (ReadsForms (place c.args.behind)) _ _ said (λ h. h) c.in_err-behind.ensures))

pub returns-clause-read : goal.returns-clause-read
returns-clause-read c =
    let last = last_line c.args.source.text.now in
    let said = listings.behind_head last (forms (place c.args.behind)) in
    let here : ReadsForms (place c.args.behind) = inr (head_form last (forms (place c.args.behind)) _ c.in_ok-behind.ensures) in
    reads_same _ (ReadsForms (place c.args.behind)) _ _ _ _ (listings.functions [] (forms (place c.in_ok-behind.behind))) (from_result said >>= listings.functions []) (λ h. here)
    (sym (ap (λ r. (from_result r >>= listings.functions []).run c.args.atoms.now) c.in_ok-behind.ensures)) c.functions.ensures.read

pub returns-clause-located : goal.returns-clause-located
returns-clause-located c asked = rw c.in_ok-behind.ensures (c.functions.ensures.located asked)
