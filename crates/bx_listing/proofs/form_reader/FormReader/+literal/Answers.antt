use Rattle.bx_listing.proofs.Known.{◌<◌, ◌≤◌, length, true, refl, subst, arith, err_from_is_err_and, Memory, tuple, list, nil, chain, span_of, tail_seen}
use Rattle.bx_listing.proofs.Known.{elements_seen, give, Refused, parts, literal, kept_list, kept_tuple, stored, ended, drop, ◌+◌}
use Rattle.bx_listing.proofs.LiteralRows.{front_view, row_starts, row_behind, element_left, element_next, tail_left, ends_without, ends_with, element_falls}
use Rattle.bx_listing.proofs.{Lemmas.wanting_stored, Lemmas.element_at, Lemmas.refused_stored, LiteralRows.tail_le, Loops.left_refuses, Loops.left_memory}
use Rattle.bx_listing.proofs.form_reader.FormReader.+literal.Goals as goal

pub literal_row-loop-i-init : goal.literal_row-loop-i-init
literal_row-loop-i-init t c = rw c.new.ensures.items (row_starts (elements_seen c.args.elements) (tail_seen c.args.tail) _)

pub literal_row-returns-in_err-kept-in-Ok : goal.literal_row-returns-in_err-kept-in-Ok
literal_row-returns-in_err-kept-in-Ok t c =
    let ts = elements_seen c.args.elements in
    let left = element_left ts (tail_seen c.args.tail) c.loop-i.i _ (omega (arith, c.loop-i-test.true, c.len-i-end.ensures)) (element_at ts c.loop-i.i _ _ c.node.ensures c.at.ensures) in
    let p = err_from_is_err_and c.from_residual.result c.from_residual.ensures.1 in
    rw (p.1, p.2) (left_memory c.loop-i.invariant (front_view _) (literal c.node.result.now) (row_behind (drop (c.loop-i.i + 1) ts) (tail_seen c.args.tail)) _ _ left c.in-Ok.ensures.read)

pub literal_row-returns-in-Err : goal.literal_row-returns-in-Err
literal_row-returns-in-Err t c =
    let ts = elements_seen c.args.elements in
    let left = element_left ts (tail_seen c.args.tail) c.loop-i.i _ (omega (arith, c.loop-i-test.true, c.len-i-end.ensures)) (element_at ts c.loop-i.i _ _ c.node.ensures c.at.ensures) in
    left_refuses c.loop-i.invariant (front_view _) (stored (literal c.node.result.now)) (row_behind (drop (c.loop-i.i + 1) ts) (tail_seen c.args.tail)) _ _ left
    (refused_stored (λ _. true) _ _ _ (literal c.node.result.now) c.in-Err.ensures.read)

pub literal_row-loop-i-preserved : goal.literal_row-loop-i-preserved
literal_row-loop-i-preserved t c =
    let ts = elements_seen c.args.elements in
    let at = element_at ts c.loop-i.i _ _ c.node.ensures c.at.ensures in
    rw c.in_ok-kept-in-Ok.ensures (element_next ts (tail_seen c.args.tail) c.loop-i.i c.node.result.now _ _ _ _ _ (omega (arith, c.loop-i-test.true, c.len-i-end.ensures)) at c.loop-i.invariant c.in-Ok.ensures.read)

pub literal_row-literal-requires : goal.literal_row-literal-requires
literal_row-literal-requires t c =
    let ts = elements_seen c.args.elements in
    let here : c.loop-i.i < length ts = omega (arith, c.loop-i-test.true, c.len-i-end.ensures) in
    let at = element_at ts c.loop-i.i _ _ c.node.ensures c.at.ensures in
    let falls = element_falls (elements_seen c.args.elements) (tail_seen c.args.tail) c.loop-i.i c.node.result.now here at in
    let measure = c.decreases in
    (omega (arith, falls, measure), tt)

pub literal_row-literal-requires-in-Some : goal.literal_row-literal-requires-in-Some
literal_row-literal-requires-in-Some t c =
    let below = rw c.in-Some.is at (tail_le (elements_seen c.args.elements) (tail_seen c.args.tail)) in
    let measure = rw c.in-Some.is at c.decreases in
    (omega (arith, below, measure), tt)

pub literal_row-returns-in-Ok-literal : goal.literal_row-returns-in-Ok-literal
literal_row-returns-in-Ok-literal t c =
    let past : length (elements_seen c.args.elements) ≤ c.loop-i.i = omega (arith, c.loop-i-test.false, c.len-i-end.ensures) in
    rw c.in-Some.is (ends_with (elements_seen c.args.elements) c.in-Some.node.now _ _ _ _ _ _ past c.in-Ok-literal.ensures.node (rw c.in-Some.is at c.loop-i.invariant.so_far) c.in-Ok-literal.ensures.read)

pub literal_row-returns-in-Err-literal : goal.literal_row-returns-in-Err-literal
literal_row-returns-in-Err-literal t c =
    let past : length (elements_seen c.args.elements) ≤ c.loop-i.i = omega (arith, c.loop-i-test.false, c.len-i-end.ensures) in
    let left = tail_left (elements_seen c.args.elements) c.in-Some.node.now c.loop-i.i past c.in-Err-literal.ensures.node in
    rw c.in-Some.is (left_refuses (rw c.in-Some.is at c.loop-i.invariant) (front_view _) (literal c.in-Some.node.now) (λ y. give (ended y)) _ _ left c.in-Err-literal.ensures.read)

pub literal_row-returns-in-None : goal.literal_row-returns-in-None
literal_row-returns-in-None t c =
    let past : length (elements_seen c.args.elements) ≤ c.loop-i.i = omega (arith, c.loop-i-test.false, c.len-i-end.ensures) in
    rw (c.in-None.is, c.nil.ensures) (ends_without (elements_seen c.args.elements) _ _ _ _ past (rw c.in-None.is at c.loop-i.invariant.so_far))

pub literal-returns-in_err-tuple-in-Tuple-clause-read : goal.literal-returns-in_err-tuple-in-Tuple-clause-read
literal-returns-in_err-tuple-in-Tuple-clause-read t c =
    let p = err_from_is_err_and c.from_residual-in_err-tuple-in-Tuple.result c.from_residual-in_err-tuple-in-Tuple.ensures.1 in
    let said : Refused c.args.atoms.now c.literal_row.new.atoms Memory (literal (tuple (span_of c.args.node.now) (chain c.in-Tuple.elements.now nil))) = wanting_stored (λ _. true) _ _ ((parts (chain c.in-Tuple.elements.now nil)).row) _ (λ r. give (kept_tuple r.elements)) c.in_ok-row-in-Tuple.ensures refl in
    rw (p.1, p.2) (subst (λ n. Refused c.args.atoms.now c.literal_row.new.atoms Memory (literal n)) c.in-Tuple.ensures.content said)

pub literal-returns-in_err-list-in-List-clause-read : goal.literal-returns-in_err-list-in-List-clause-read
literal-returns-in_err-list-in-List-clause-read t c =
    let p = err_from_is_err_and c.from_residual-in_err-list-in-List.result c.from_residual-in_err-list-in-List.ensures.1 in
    let said : Refused c.args.atoms.now c.literal_row-in-List.new.atoms Memory (literal (list (span_of c.args.node.now) (chain (elements_seen c.in-List.elements) (tail_seen c.in-List.tail)))) = wanting_stored (λ _. true) _ _ ((parts (chain (elements_seen c.in-List.elements) (tail_seen c.in-List.tail))).row) _ (λ r. give (kept_list r.elements r.tail)) c.in_ok-row-in-List.ensures refl in
    rw (p.1, p.2) (subst (λ n. Refused c.args.atoms.now c.literal_row-in-List.new.atoms Memory (literal n)) c.in-List.ensures.content said)
