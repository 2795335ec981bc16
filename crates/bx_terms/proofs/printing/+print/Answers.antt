use Rattle.std.proofs.Common.{arith}
use Rattle.bx_terms.proofs.Rows.{nodes_after_first}
use Rattle.bx_terms.proofs.printing.+print.Goals as goal

pub push_elements-push_term-requires-in-loop-element : goal.push_elements-push_term-requires-in-loop-element
push_elements-push_term-requires-in-loop-element t c =
    let lower = nodes_after_first c.args.elements.now c.loop-element.element-index c.element-item.result c.loop-element-test.true c.element-item.is in
    (omega arith, tt)
