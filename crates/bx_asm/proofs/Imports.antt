-- The functions that are called by name: what a set of them holds after one more.
use Rattle.std.proofs.Common.{◌≡◌, List, [], ◌∷◌, ◌++◌, refl}
use Rattle.std.specs.Prelude.{if◌then◌else◌}
use Rattle.std.specs.List.{list_any}
use Rattle.bx_listing.specs.contracts.items.ImportPartialEq.TheImpl as imports
use Rattle.bx_listing.specs.declared.items.Import.{Import}
use Rattle.bx_asm.specs.Limits.{same_import}

-- the set tells imports apart by module, function and arity
pub inserted : (held : List Import) (i : Import) → (if list_any ((imports.eq-value).it i) held then held else held ++ i ∷ []) ≡ (if list_any (same_import i) held then held else held ++ i ∷ [])
inserted held i = refl
