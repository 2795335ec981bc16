-- Where assembling takes memory at all.
use Rattle.std.specs.Prelude.{◌≡◌, ◌⊎◌, true, None, IsSome}
use Rattle.bx_listing.specs.ListedCode.{ListedModule}
use Rattle.bx_asm.specs.Limits.{first_call, first_label, is_within, size_fault, register_faults, first_fault}

-- the functions that are called by name are counted once all other sizes are within their limits; labels are noted once sizes
-- and registers are in range; and code is kept where there is no fault
abbrev pub TakesMemory : ListedModule → Type 0
TakesMemory m =
    ((is_within m ≡ true) × IsSome (first_call m.functions))
    ⊎ (((size_fault m ≡ None) × ((register_faults m ≡ None) × IsSome (first_label m.functions)))
    ⊎ (first_fault m ≡ None))
