-- Where disassembling takes memory at all.
use Rattle.std.specs.Prelude.{◌<◌, ◌⊎◌, Option, Some, None, length}
use Rattle.bx_listing.specs.Code.{Code}

abbrev pub TakesMemory : Code → Type 0
TakesMemory c = (0 < length c.exports) ⊎ (0 < length c.functions)

abbrev pub ModuleTakes : Option Code → Type 0
ModuleTakes (Some c) = TakesMemory c
ModuleTakes None = ⊥
