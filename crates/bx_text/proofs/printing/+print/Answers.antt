use Rattle.std.proofs.Common.{◌<◌, length, ap, arith}
use Rattle.bx_text.specs.Falls.{tail_le}
use Rattle.bx_text.specs.Tree.{nodes}
use Rattle.bx_text.specs.View.{tail_seen, elements_seen, element_seen}
use Rattle.bx_text.proofs.Contents.{nodes_at, nodes_tailed}
use Rattle.bx_text.proofs.printing.+print.Goals as goal

pub push_row-push_node-requires-in-loop-i : goal.push_row-push_node-requires-in-loop-i
push_row-push_node-requires-in-loop-i t c =
    let xs = elements_seen c.args.elements in
    let here : c.loop-i.i < length xs = omega (arith, c.loop-i-test.true, c.len-i-end.ensures) in
    let lower = nodes_at xs c.loop-i.i (element_seen c.at-in-loop-i.result) here c.at-in-loop-i.ensures in
    let whole = nodes_tailed xs (tail_seen c.args.tail) in
    let same = ap nodes c.node-in-loop-i.ensures in
    (omega (arith, lower, whole, same, c.decreases), tt)

pub push_row-push_tail-requires-2 : goal.push_row-push_tail-requires-2
push_row-push_tail-requires-2 t c =
    let low = tail_le (elements_seen c.args.elements) (tail_seen c.args.tail) in
    (omega (arith, low, c.decreases), tt)
