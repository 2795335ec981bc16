use Rattle.bx_listing.proofs.Known.{get_or, sym, ap, Some, ◌∙◌, refl, terms, slot}
use Rattle.bx_listing.proofs.Loops.{plain_view, left_next, left_refuses, more_slots, row_left, row_no_more}
use Rattle.bx_listing.proofs.form_reader.FormReader.read_row.Goals as goal

pub returns-in_default : goal.returns-in_default
returns-in_default c = row_no_more _ c.args.slots.now (terms c.args.arguments) c.loop-i.i _ _ (sym c.in_default.ensures) c.loop-i.invariant.so_far

pub returns-in-Err : goal.returns-in-Err
returns-in-Err c =
    let found = sym c.in-Some.ensures ∙ ap Some (sym c.node.ensures) in
    left_refuses c.loop-i.invariant plain_view (slot c.loop-i.operands.items (get_or c.args.slots.now c.loop-i.i _) c.node.result.now) (more_slots c.args.slots.now (terms c.args.arguments) c.loop-i.i) _ _
    (row_left c.loop-i.operands.items c.args.slots.now (terms c.args.arguments) c.loop-i.i _ _ c.loop-i-test.true found) c.in-Err.ensures

pub loop-i-preserved : goal.loop-i-preserved
loop-i-preserved c =
    let found = sym c.in-Some.ensures ∙ ap Some (sym c.node.ensures) in
    left_next c.loop-i.invariant (slot c.loop-i.operands.items (get_or c.args.slots.now c.loop-i.i _) c.node.result.now) (more_slots c.args.slots.now (terms c.args.arguments) c.loop-i.i) _ _ (λ o. o) _
    (row_left c.loop-i.operands.items c.args.slots.now (terms c.args.arguments) c.loop-i.i _ _ c.loop-i-test.true found) c.in-Ok.ensures refl (λ k. k)
