use Rattle.std.proofs.Common.{◌≡◌, Err, Global, Ok, String, string_bytes, subst}
use Rattle.bx_terms.specs.FixedAtoms.{fixed_atoms}
use Rattle.bx_listing.specs.Code.{Code}
use Rattle.bx_listing.specs.Locations.{Located}
use Rattle.bx_listing.specs.Reading.{Table}
use Rattle.bx_listing.specs.Writing.{code_text}
use Rattle.bx_engine.specs.Units.{FileGives, unit_in}
use Rattle.bx_engine.proofs.OneFile.{fails_on}
use Rattle.bx_engine.proofs.dis.text_of.Goals as goal

pub returns-in-Err-read_unit : goal.returns-in-Err-read_unit
returns-in-Err-read_unit g c given known =
    let made = c.in-Ok.ensures in
    let atoms : c.in-Ok.atoms ≡ fixed_atoms = cc in
    fails_on (λ (r : Code × Located). (c.read_unit.new.atoms, r.0)) (λ (text : String Global). string_bytes text) 0 c.in-Err-read_unit.failure (unit_in 0 fixed_atoms given) (λ unit. Ok (code_text unit.0 unit.1))
    (subst (λ (t : Table). FileGives (λ (r : Code × Located). (c.read_unit.new.atoms, r.0)) 0 (Err c.in-Err-read_unit.failure) (unit_in 0 t given)) atoms
    (c.in-Err-read_unit.ensures.read given known))
