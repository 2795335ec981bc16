-- The image of the listings, and the plan: what stands before a run.
use Rattle.std.specs.Prelude.{◌≡◌, ◌⊎◌, ℕ, List, None, Result, Ok, Err, IsOk, length}
use Rattle.bx_terms.specs.FixedAtoms.{fixed_atoms}
use Rattle.bx_terms.specs.declared.faults.Fault.{Fault}
use Rattle.bx_load.specs.Image.{Loaded}
use Rattle.bx_load.specs.Loading.{loaded}
use Rattle.bx_plan.specs.Plans.{Named, plan_of}
use Rattle.bx_engine.specs.Units.{◌>>=◌, ClearBefore, in_file, sized, units_of}
use Rattle.bx_engine.specs.declared.failures.Failure.{Failure, TheVariants.Refused}

-- a fault that no file has alone
abbrev pub of_no_file : {A : Type 0} → Result A Fault → Result A Failure
of_no_file (Ok x) = Ok x
of_no_file (Err fault) = Err (Refused fault None)

-- the modules of all the listings, loaded together
abbrev pub image_of : List (List ℕ) → Result Loaded Failure
image_of given = units_of fixed_atoms given >>= λ u. of_no_file (loaded u.0 u.1)

-- the schedules of the plan in the file of that number
abbrev pub plan_in : ℕ → List ℕ → Result (List Named) Failure
plan_in n text = sized n text >>= λ bytes. in_file n (plan_of bytes)

-- nothing is at fault before the file of that number: it is a listing, or the plan behind listings that load
abbrev pub ClearUpTo : List (List ℕ) → ℕ → Type 0
ClearUpTo given n = ClearBefore fixed_atoms given n ⊎ ((n ≡ length given) × IsOk (image_of given))
