use Rattle.bx_listing.proofs.{Known.ap, Known.◌∙◌, Known.elements_seen, Known.bif_op, BifParts.bif_listed}
use Rattle.bx_listing.proofs.form_reader.FormReader.bif_form.Goals as goal

pub returns : goal.returns
returns c =
    let op = c.bif_op.ensures ∙ ap bif_op c.len.ensures in
    rw (bif_listed c.args.parts.now _ _ _ (elements_seen c.in-Some-Some.list) c.bif_op.result c.in-len3-up.len_at_least c.name-item.is c.list-item.is c.in-Some-Some.ensures c.in-Some-Some.ensures' (c.if-is_raise.ensures) op) c.bif_found.ensures
