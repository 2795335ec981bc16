-- Which modules can be loaded together.
use Rattle.std.specs.Prelude.{◌≡◌, ◌<◌, ℕ, ◌||◌, List, [], ◌∷◌, Bool, false, not, if◌then◌else◌, Option, Some, None, Result, length, nat_lt}
use Rattle.std.specs.List.{list_any}
use Rattle.bx_terms.specs.declared.faults.Fault.{Fault, TheVariants.TooManyModules, TheVariants.ModuleTwice, TheVariants.ExportMissing}
use Rattle.bx_listing.specs.declared.code_form.Export.{Export}
use Rattle.bx_listing.specs.Code.{Code, CodeFunction}
use Rattle.bx_asm.specs.Limits.{or_refused}
use Rattle.bx_load.specs.Image.{Loaded, is_atom, is_function}

-- two modules of one name
abbrev pub has_twice : List Code → Bool
has_twice [] = false
has_twice (c ∷ cs) = list_any (λ d. is_atom c.name d.name) cs || has_twice cs

abbrev pub is_missing : List CodeFunction → Export → Bool
is_missing fs e = not (list_any (is_function e.function e.arity) fs)

-- an export that names no function of its module
abbrev pub lacks_export : Code → Bool
lacks_export c = list_any (is_missing c.functions) c.exports

-- too many modules first, then a name that stands twice, then an export without its function
abbrev pub load_fault : List Code → Option Fault
load_fault ms =
    if nat_lt 64 (length ms) then Some TooManyModules
    else if has_twice ms then Some ModuleTwice
    else if list_any lacks_export ms then Some ExportMissing
    else None

-- the modules are loaded in the order in which they are given, or nothing is
abbrev pub loaded : List (List ℕ) → List Code → Result Loaded Fault
loaded atoms ms = or_refused (record { atoms = atoms; modules = ms }) (load_fault ms)

-- loading takes memory where there is a module and nothing is wrong
abbrev pub TakesMemory : List Code → Type 0
TakesMemory ms = (0 < length ms) × (load_fault ms ≡ None)
