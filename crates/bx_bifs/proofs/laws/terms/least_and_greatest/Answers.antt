use Rattle.bx_bifs.proofs.Words.{refl, arith, if◌then◌else◌, is_lt, is_gt, order_of, order_of_total, guard_two}
use Rattle.std.proofs.lemmas.Cmp.{tied_itself}
use Rattle.bx_bifs.proofs.laws.terms.least_and_greatest.Goals as goal

pub returns-clause-least : goal.returns-clause-least
unfolding guard_two
returns-clause-least c texts t u =
    let one = tied_itself (order_of_total texts) t in
    let other = tied_itself (order_of_total texts) u in
    let around = (order_of_total texts).antisymm u t in
    (if is_gt (order_of texts t u) then u else t, refl, grind arith, grind arith, grind arith)

pub returns-clause-greatest : goal.returns-clause-greatest
unfolding guard_two
returns-clause-greatest c texts t u =
    let one = tied_itself (order_of_total texts) t in
    let other = tied_itself (order_of_total texts) u in
    let around = (order_of_total texts).antisymm u t in
    (if is_lt (order_of texts t u) then u else t, refl, grind arith, grind arith, grind arith)
