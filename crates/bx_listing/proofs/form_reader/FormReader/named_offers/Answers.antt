use Rattle.bx_listing.proofs.Known.{◌≤◌, length, arith, drop, ◌+◌, true, err_from_is_err_and, named_offer, stored, elements_seen}
use Rattle.bx_listing.proofs.Lemmas.{refused_stored, element_at}
use Rattle.bx_listing.proofs.Loops.{left_refuses, left_memory, resumed_view, each_behind, each_left, each_starts, each_next, each_ends}
use Rattle.bx_listing.proofs.form_reader.FormReader.named_offers.Goals as goal

pub loop-i-init : goal.loop-i-init
loop-i-init c = each_starts named_offer (elements_seen c.args.list) _ _ c.new-exports.ensures.items

pub loop-i-preserved : goal.loop-i-preserved
loop-i-preserved c =
    let ts = elements_seen c.args.list in
    let at = element_at ts c.loop-i.i _ _ c.node.ensures c.at.ensures in
    rw c.in_ok-push-in-Ok.ensures.items (each_next named_offer ts c.loop-i.i _ _ _ _ _ _ (omega (arith, c.loop-i-test.true, c.len-i-end.ensures)) at c.loop-i.invariant c.in-Ok.ensures)

pub returns-in_err-push-in-Ok : goal.returns-in_err-push-in-Ok
returns-in_err-push-in-Ok c =
    let ts = elements_seen c.args.list in
    let left = each_left named_offer ts c.loop-i.i _ (omega (arith, c.loop-i-test.true, c.len-i-end.ensures)) (element_at ts c.loop-i.i _ _ c.node.ensures c.at.ensures) in
    let p = err_from_is_err_and c.from_residual.result c.from_residual.ensures.1 in
    rw (p.1, p.2) (left_memory c.loop-i.invariant (resumed_view _) (named_offer c.node.result.now) (each_behind named_offer (drop (c.loop-i.i + 1) ts)) _ _ left c.in-Ok.ensures)

pub returns-in-Err : goal.returns-in-Err
returns-in-Err c =
    let ts = elements_seen c.args.list in
    let left = each_left named_offer ts c.loop-i.i _ (omega (arith, c.loop-i-test.true, c.len-i-end.ensures)) (element_at ts c.loop-i.i _ _ c.node.ensures c.at.ensures) in
    left_refuses c.loop-i.invariant (resumed_view _) (stored (named_offer c.node.result.now)) (each_behind named_offer (drop (c.loop-i.i + 1) ts)) _ _ left
    (refused_stored (λ _. true) _ _ _ (named_offer c.node.result.now) c.in-Err.ensures)

pub returns : goal.returns
returns c =
    let past : length (elements_seen c.args.list) ≤ c.loop-i.i = omega (arith, c.loop-i-test.false, c.len-i-end.ensures) in
    each_ends named_offer _ _ _ _ _ past c.loop-i.invariant.so_far
