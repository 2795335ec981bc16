use Rattle.bx_listing.proofs.Known.{◌≡◌, ◌<◌, length, vec_len, sym, subst, ◌∙◌, span_of, shape}
use Rattle.bx_listing.proofs.FormLoop.{in_last, not_none}
use Rattle.bx_listing.proofs.form_reader.FormReader.add_form.Goals as goal

pub returns : goal.returns
returns c =
    let size : vec_len c.args.functions.now ≡ length c.args.functions.now.items = c.args.functions.now.ok.0 in
    let some : 0 < length c.args.functions.now.items = subst (λ n. 0 < n) size (not_none (vec_len c.args.functions.now) (sym c.is_empty.ensures ∙ c.if-is_empty.false)) in
    in_last _ _ _ _ (span_of c.args.form.now).line c.args.functions.now.items (shape c.args.form.now) some c.add_form_item.ensures
