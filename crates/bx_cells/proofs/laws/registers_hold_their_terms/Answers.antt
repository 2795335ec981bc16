use Rattle.bx_cells.proofs.Writing.{held_terms}
use Rattle.bx_cells.proofs.laws.registers_hold_their_terms.Goals as goal

pub returns : goal.returns
returns c = held_terms
