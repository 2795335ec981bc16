use Rattle.bx_terms.specs.FixedAtoms.{fixed_atoms}
use Rattle.bx_load.specs.Image.{Loaded}
use Rattle.bx_engine.specs.Loads.{image_of}
use Rattle.bx_engine.specs.Sources.{Sources}
use Rattle.bx_engine.specs.Units.{ClearBefore}
use Rattle.bx_engine.proofs.FileRows.{same_failure}
use Rattle.bx_engine.proofs.loads.image_of.Goals as goal

pub returns : goal.returns
returns g c given known =
    same_failure {X = Loaded × Sources} {Y = Loaded} (λ r. r.0) (λ image. image) c.in-Err.failure (ClearBefore fixed_atoms given) (image_of given) (c.in-Err.ensures.loaded given known)
