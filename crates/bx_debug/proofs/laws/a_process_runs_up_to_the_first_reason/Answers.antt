use Rattle.bx_debug.proofs.Runs.{most_runs, no_reason_before, reason_there}
use Rattle.bx_debug.proofs.laws.a_process_runs_up_to_the_first_reason.Goals as goal

pub returns : goal.returns
returns c = record { before = no_reason_before; most = most_runs; there = reason_there }
