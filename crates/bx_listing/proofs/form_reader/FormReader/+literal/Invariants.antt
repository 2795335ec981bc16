use Rattle.bx_listing.proofs.Known.{◌+◌, ◌*◌, drop, option_map, chain, nodes, tail_seen, elements_seen}
use Rattle.bx_listing.proofs.{Loops.Left, LiteralRows.row, LiteralRows.with_front}
use Rattle.bx_listing.proofs.form_reader.FormReader.+literal.Given as goal

abbrev pub decreases-literal : goal.decreases-literal
decreases-literal l = 2 * nodes l.node.now

abbrev pub decreases-literal_row : goal.decreases-literal_row
decreases-literal_row l = 1 + 2 * nodes (chain (elements_seen l.elements) (tail_seen l.tail))

abbrev pub invariant-literal_row-loop-i : goal.invariant-literal_row-loop-i
invariant-literal_row-loop-i l =
    Left (with_front (option_map (λ ts. ts.items) l.kept)) (row (drop l.i (elements_seen l.elements)) (tail_seen l.tail)) l.atoms (row (elements_seen l.elements) (tail_seen l.tail)) l.fn.atoms
