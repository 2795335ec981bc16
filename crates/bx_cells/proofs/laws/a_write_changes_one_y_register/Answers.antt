use Rattle.bx_cells.proofs.Writing.{written_y, other_y}
use Rattle.bx_cells.proofs.laws.a_write_changes_one_y_register.Goals as goal

pub returns : goal.returns
returns c = record { written = written_y; others = other_y }
