use Rattle.bx_listing.proofs.{Known.◌+◌, Known.◌∙◌, Known.ap, Known.drop, Known.sym, Known.seen_item, Known.labels_above, Lemmas.item_left, Lemmas.no_item_left}
use Rattle.bx_listing.proofs.writing.label_above_at.Goals as goal

pub returns-in-Some : goal.returns-in-Some
returns-in-Some c =
    let is = c.args.function.now.items in
    let at = c.args.place in
    ap (λ n. labels_above n (drop (at + 1) is)) c.label_above.ensures
    ∙ sym (ap (labels_above c.args.number) (item_left is at (seen_item c.in-Some.item) c.in-Some.ensures))

pub returns-in-None : goal.returns-in-None
returns-in-None c = sym (ap (labels_above c.args.number) (no_item_left c.args.function.now.items c.args.place c.in-None.ensures))
