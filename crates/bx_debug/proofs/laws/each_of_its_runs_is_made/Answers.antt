use Rattle.bx_debug.proofs.Runs.{runs_made}
use Rattle.bx_debug.proofs.laws.each_of_its_runs_is_made.Goals as goal

pub returns : goal.returns
returns c = runs_made
