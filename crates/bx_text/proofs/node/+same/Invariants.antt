use Rattle.std.proofs.Common.{◌≡◌, ◌+◌, ◌*◌, drop, length}
use Rattle.bx_text.specs.Tree.{nodes, nil, chain}
use Rattle.bx_text.specs.Form.{tail_tree}
use Rattle.bx_text.specs.View.{elements_seen}
use Rattle.bx_text.proofs.node.+same.Given as goal

-- rows that agree from here on agree
abbrev pub invariant-same_elements-loop-i : goal.invariant-same_elements-loop-i
invariant-same_elements-loop-i l =
    (length (elements_seen l.xs) ≡ length (elements_seen l.ys)) × (drop l.i (elements_seen l.xs) ≡ drop l.i (elements_seen l.ys) → elements_seen l.xs ≡ elements_seen l.ys)

abbrev pub decreases-Node::same : goal.decreases-Node::same
decreases-Node::same l = 2 * nodes l.self.now

abbrev pub decreases-same_elements : goal.decreases-same_elements
decreases-same_elements l = 2 * nodes (chain (elements_seen l.xs) nil)

abbrev pub decreases-same_tails : goal.decreases-same_tails
decreases-same_tails l = 2 * nodes (tail_tree l.one.now) + 1
