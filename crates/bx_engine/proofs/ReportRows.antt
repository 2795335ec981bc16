-- The report from a start that is found, and from one that is not.
use Rattle.std.proofs.Common.{◌≡◌, List, Result, Ok, Err, ap}
use Rattle.bx_terms.specs.Outcomes.{◌>>=◌}
use Rattle.bx_terms.specs.declared.faults.Fault.{Fault}
use Rattle.bx_load.specs.Image.{Loaded}
use Rattle.bx_plan.specs.Plans.{Named}
use Rattle.bx_world.specs.World.{State, started}
use Rattle.bx_board.specs.Jobs.{Entry}
use Rattle.bx_board.specs.Reported.{reported_alone, report_from}

pub from_start_found : (image : Loaded) (entry : Entry) (start : State) (plan : List Named) → started image entry.0 entry.1 ≡ Ok start → report_from image entry plan ≡ Ok (reported_alone image entry plan)
from_start_found image entry start plan begins = ap (λ (r : Result State Fault). r >>= λ w. Ok (reported_alone image entry plan)) begins

pub from_no_start : (image : Loaded) (entry : Entry) (fault : Fault) (plan : List Named) → started image entry.0 entry.1 ≡ Err fault → report_from image entry plan ≡ Err fault
from_no_start image entry fault plan begins = ap (λ (r : Result State Fault). r >>= λ w. Ok (reported_alone image entry plan)) begins
