use Rattle.bx_cells.proofs.Catching.{caught_so, uncaught_so}
use Rattle.bx_cells.proofs.laws.faults_go_to_the_lowest_tag_of_the_topmost_frame_with_one.Goals as goal

pub returns : goal.returns
returns c = record { caught = caught_so; uncaught = uncaught_so }
