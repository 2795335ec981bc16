use Rattle.std.proofs.Common.{◌≡◌, drop}
use Rattle.bx_load.specs.Loading.{has_twice}
use Rattle.bx_load.proofs.loading.has_twice.Given as goal

abbrev pub invariant-loop-number : goal.invariant-loop-number
invariant-loop-number l = has_twice l.units ≡ has_twice (drop l.number l.units)
