-- What a proof tells ends of runs apart by.
use Rattle.std.specs.Coded.{Coded}
use Rattle.bx_terms.specs.TreeCode.{tree_code}
use Rattle.bx_terms.specs.contracts.kinds.Trap as traps
use Rattle.bx_proc.specs.contracts.process.Proc as process
use Rattle.bx_world.specs.contracts.choices.Choice as choices
use Rattle.bx_world.specs.contracts.lanes.Lanes as lanes
use Rattle.bx_world.specs.Running.{Ended, ended_code}
use Rattle.bx_world.specs.World.{state_code}

abbrev pub end_code : Coded Ended
end_code = ended_code (state_code process.the_row.coded tree_code lanes.the_row.coded traps.the_row.coded) choices.the_row.coded
