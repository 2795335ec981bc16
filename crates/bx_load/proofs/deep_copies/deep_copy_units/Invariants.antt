use Rattle.std.proofs.Common.{◌≡◌, take}
use Rattle.bx_load.proofs.deep_copies.deep_copy_units.Given as goal

abbrev pub invariant-loop-at : goal.invariant-loop-at
invariant-loop-at l = l.copies.items ≡ take l.at l.units
