use Rattle.bx_listing.proofs.{Known.ap, Known.◌∙◌, Known.elements_seen, Known.gc_bif_op, BifParts.gc_bif_listed}
use Rattle.bx_listing.proofs.form_reader.FormReader.gc_bif_form.Goals as goal

pub returns : goal.returns
returns c =
    let op = c.gc_bif_op.ensures ∙ ap gc_bif_op c.len.ensures in
    rw (gc_bif_listed c.args.parts.now _ _ _ (elements_seen c.in-Some-Some.list) c.gc_bif_op.result c.in-len4-up.len_at_least c.name-item.is c.list-item.is c.in-Some-Some.ensures c.in-Some-Some.ensures' op) c.bif_found.ensures
