use Rattle.bx_listing.proofs.Known.{is_some, err_from_is_err_and, give, span_of, shape, item, with_optional}
use Rattle.bx_listing.proofs.{Lemmas.wanting_stored, FormLoop.read_some}
use Rattle.bx_listing.proofs.form_reader.FormReader.add_form_item.Goals as goal

pub returns-in_err-add_item : goal.returns-in_err-add_item
returns-in_err-add_item c =
    let p = err_from_is_err_and c.from_residual-in_err-add_item.result c.from_residual-in_err-add_item.ensures.1 in
    rw (p.1, p.2) (wanting_stored is_some _ _ (item (shape c.args.form.now)) _ (λ i. give (with_optional (span_of c.args.form.now).line i c.args.functions.now.items)) (rw c.shape_of.ensures at c.in_ok-op.ensures) (read_some c.in_ok-op.op _ c.in_err-add_item.ensures.wanting))
