use Rattle.bx_bifs.proofs.NameLaws.{guards_found}
use Rattle.bx_bifs.proofs.laws.names.guard_names.Goals as goal

pub returns : goal.returns
returns c = guards_found
