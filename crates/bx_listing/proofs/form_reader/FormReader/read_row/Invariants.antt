use Rattle.bx_listing.proofs.{Known.drop, Known.row, Known.terms, Loops.Left}
use Rattle.bx_listing.proofs.form_reader.FormReader.read_row.Given as goal

abbrev pub invariant-loop-i : goal.invariant-loop-i
invariant-loop-i l = Left (λ o. o) (row l.operands.items (drop l.i l.slots) (drop l.i (terms l.arguments))) l.atoms (row l.fn.operands.items l.slots (terms l.arguments)) l.fn.atoms
