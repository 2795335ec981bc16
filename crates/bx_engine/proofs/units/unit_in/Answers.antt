use Rattle.std.specs.Prelude.{⊤}
use Rattle.bx_listing.specs.Code.{Code}
use Rattle.bx_listing.specs.Locations.{Located}
use Rattle.bx_engine.proofs.FileRows.{file_fails}
use Rattle.bx_engine.proofs.units.unit_in.Goals as goal

pub returns-in-Err-clause-read : goal.returns-in-Err-clause-read
returns-in-Err-clause-read c = file_fails ⊤ (λ (r : Code × Located). (c.unit_of.new.atoms, r.0)) c.args.file c.in-Err.fault c.in_file.result _ c.in-Err.ensures.read c.in_file.ensures
