use Rattle.bx_load.proofs.PlaceLaws.{place_holds, after_stands, target_stands, export_stands}
use Rattle.bx_load.proofs.laws.places_hold_instructions.Goals as goal

pub returns : goal.returns
returns c = record { given = place_holds; behind = after_stands; labels = target_stands; calls = export_stands }
