use Rattle.std.proofs.Common.{◌≡◌, ◌+◌, ◌*◌, ◌++◌, drop, string_bytes}
use Rattle.bx_text.specs.Tree.{nodes, chain}
use Rattle.bx_text.specs.View.{tail_seen, elements_seen}
use Rattle.bx_text.specs.Printed.{row_text, rest_text}
use Rattle.bx_text.proofs.printing.+print.Given as goal

-- what is written and what is left to write make the whole
abbrev pub invariant-push_row-loop-i : goal.invariant-push_row-loop-i
invariant-push_row-loop-i l =
    string_bytes l.out ++ rest_text (chain (drop l.i (elements_seen l.elements)) (tail_seen l.tail)) ≡ string_bytes l.fn.out ++ row_text (chain (elements_seen l.elements) (tail_seen l.tail))

abbrev pub decreases-push_node : goal.decreases-push_node
decreases-push_node l = 3 * nodes l.node.now

abbrev pub decreases-push_row : goal.decreases-push_row
decreases-push_row l = 3 * nodes (chain (elements_seen l.elements) (tail_seen l.tail)) + 2

abbrev pub decreases-push_tail : goal.decreases-push_tail
decreases-push_tail l = 3 * nodes (tail_seen l.tail) + 1
