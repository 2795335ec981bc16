use Rattle.bx_listing.proofs.Known.{arith, refl, true, err_from_is_err_and, simple, stored, elements_seen}
use Rattle.bx_listing.proofs.Lemmas.{refused_stored, element_at}
use Rattle.bx_listing.proofs.Loops.{plain_view, left_next, left_refuses, left_memory, more_members, members_left}
use Rattle.bx_listing.proofs.form_reader.FormReader.members.Goals as goal

pub returns-in_err-push-in-Ok : goal.returns-in_err-push-in-Ok
returns-in_err-push-in-Ok c =
    let ts = elements_seen c.args.nodes in
    let left = members_left c.loop-i.operands.items c.loop-i.this c.loop-i.next ts c.loop-i.i _ (omega (arith, c.loop-i-test.true, c.len-i-end.ensures)) (element_at ts c.loop-i.i _ _ c.node.ensures c.at.ensures) in
    let p = err_from_is_err_and c.from_residual.result c.from_residual.ensures.1 in
    rw (p.1, p.2) (left_memory c.loop-i.invariant plain_view (simple c.loop-i.this c.node.result.now) (more_members c.loop-i.operands.items c.loop-i.this c.loop-i.next ts c.loop-i.i) _ _ left c.in-Ok.ensures)

pub returns-in-Err : goal.returns-in-Err
returns-in-Err c =
    let ts = elements_seen c.args.nodes in
    let left = members_left c.loop-i.operands.items c.loop-i.this c.loop-i.next ts c.loop-i.i _ (omega (arith, c.loop-i-test.true, c.len-i-end.ensures)) (element_at ts c.loop-i.i _ _ c.node.ensures c.at.ensures) in
    left_refuses c.loop-i.invariant plain_view (stored (simple c.loop-i.this c.node.result.now)) (more_members c.loop-i.operands.items c.loop-i.this c.loop-i.next ts c.loop-i.i) _ _ left
    (refused_stored (λ _. true) _ _ _ (simple c.loop-i.this c.node.result.now) c.in-Err.ensures)

pub loop-i-preserved : goal.loop-i-preserved
loop-i-preserved c =
    let ts = elements_seen c.args.nodes in
    let left = members_left c.loop-i.operands.items c.loop-i.this c.loop-i.next ts c.loop-i.i _ (omega (arith, c.loop-i-test.true, c.len-i-end.ensures)) (element_at ts c.loop-i.i _ _ c.node.ensures c.at.ensures) in
    rw c.in_ok-push-in-Ok.ensures.items
    (left_next c.loop-i.invariant (stored (simple c.loop-i.this c.node.result.now)) (more_members c.loop-i.operands.items c.loop-i.this c.loop-i.next ts c.loop-i.i) _ _ (λ o. o) _ left c.in-Ok.ensures refl (λ k. k))
