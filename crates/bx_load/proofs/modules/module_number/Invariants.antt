use Rattle.std.proofs.Common.{◌≡◌, drop}
use Rattle.std.specs.List.{position_from}
use Rattle.bx_load.specs.Image.{is_atom}
use Rattle.bx_load.proofs.modules.module_number.Given as goal

abbrev pub invariant-loop-number : goal.invariant-loop-number
invariant-loop-number l = position_from (λ c. is_atom l.name c.name) 0 l.units ≡ position_from (λ c. is_atom l.name c.name) l.number (drop l.number l.units)
