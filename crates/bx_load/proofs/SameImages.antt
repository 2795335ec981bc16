-- When loaded code is the same.
use Rattle.std.proofs.Common.{◌≡◌}
use Rattle.bx_load.specs.Image.{Loaded}

pub same_loaded : (v w : Loaded) → v.atoms ≡ w.atoms → v.modules ≡ w.modules → v ≡ w
same_loaded v w atoms modules = λ k. record { atoms = atoms k; modules = modules k }
