use Rattle.std.proofs.Common.{◌≡◌}
use Rattle.bx_engine.specs.Joints.{place_count}
use Rattle.bx_engine.proofs.joints.places_on.Given as goal

abbrev pub invariant-loop-chain : goal.invariant-loop-chain
invariant-loop-chain l = l.places ≡ place_count l.chains l.chain
