use Rattle.bx_listing.proofs.Known.{◌++◌, ◌+◌, ap, drop, string_bytes, sym, flat_map, seen_item, item_text}
use Rattle.bx_listing.proofs.Lemmas.{item_left, no_item_left, one_written}
use Rattle.bx_listing.proofs.writing.push_item_at.Goals as goal

pub returns-in-Some : goal.returns-in-Some
returns-in-Some c =
    let names = c.args.atoms.now in
    let is = c.args.function.now.items in
    let at = c.args.place in
    let item = seen_item c.in-Some.item in
    one_written c.push_item.result (string_bytes c.args.out.now) (string_bytes c.push_item.new.out) (item_text names item) (flat_map (item_text names) (drop at is))
    (flat_map (item_text names) (drop (at + 1) is)) c.push_item.ensures (ap (flat_map (item_text names)) (item_left is at item c.in-Some.ensures))

pub returns-in-None : goal.returns-in-None
returns-in-None c =
    ap (λ left. string_bytes c.args.out.now ++ flat_map (item_text c.args.atoms.now) left)
    (sym (no_item_left c.args.function.now.items c.args.place c.in-None.ensures))
