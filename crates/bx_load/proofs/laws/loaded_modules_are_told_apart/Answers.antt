use Rattle.bx_load.proofs.LoadLaws.{are_loaded}
use Rattle.bx_load.proofs.laws.loaded_modules_are_told_apart.Goals as goal

pub returns : goal.returns
returns c = are_loaded
