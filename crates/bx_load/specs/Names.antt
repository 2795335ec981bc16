-- Addresses in print.
use Rattle.std.specs.Prelude.{ℕ, List, ◌++◌, Option, codes, decimal, slice_get}
use Rattle.bx_terms.specs.declared.places.Place.{Place}
use Rattle.bx_terms.specs.Printed.{printed_name}
use Rattle.bx_terms.specs.Options.{◌>>=◌}
use Rattle.bx_load.specs.Image.{Loaded}

-- the name of the module of that number
abbrev pub module_name : Loaded → ℕ → Option (List ℕ)
module_name w m = do
  c ← slice_get w.modules m
  slice_get w.atoms c.name.0

-- the module's name as an atom, or a question mark where there is none, then the number of the item
abbrev pub place_text : Loaded → Place → List ℕ
place_text w p = printed_name (module_name w p.«module») ++ codes ":" ++ decimal p.item
