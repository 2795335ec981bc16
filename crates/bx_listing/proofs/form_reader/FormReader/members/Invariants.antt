use Rattle.bx_listing.proofs.{Known.drop, Known.members, Known.elements_seen, Loops.Left}
use Rattle.bx_listing.proofs.form_reader.FormReader.members.Given as goal

abbrev pub invariant-loop-i : goal.invariant-loop-i
invariant-loop-i l =
    Left (λ o. o) (members l.operands.items l.this l.next (drop l.i (elements_seen l.nodes))) l.atoms (members l.fn.operands.items l.fn.first l.fn.second (elements_seen l.nodes)) l.fn.atoms
