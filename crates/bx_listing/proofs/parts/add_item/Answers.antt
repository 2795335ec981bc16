use Rattle.bx_listing.proofs.{Known.◌≡◌, Known.◌<◌, Known.length, Known.vec_len, Known.refl, Known.arith, FormLoop.set_last}
use Rattle.bx_listing.proofs.parts.add_item.Goals as goal

pub returns-in_ok-add : goal.returns-in_ok-add
returns-in_ok-add c =
    let size : vec_len c.args.functions.now ≡ length c.args.functions.now.items = c.args.functions.now.ok.0 in
    let some : 0 < length c.args.functions.now.items = omega (arith, c.in-Some-last_mut.ensures.variant.0 refl, size) in
    record { added = rw (c.in-Some.is, c.in_ok-add.ensures.added, size) (set_last c.args.line (record { op = c.in-Some.op; operands = c.args.operands.now.items }) c.args.functions.now.items c.in-Some-last_mut.function.now some (rw size at c.in-Some-last_mut.ensures.value)); wanting = tt }
