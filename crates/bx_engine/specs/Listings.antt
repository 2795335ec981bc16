-- What `dis` writes: the code of a listing as it was numbered, written as a listing again; or the first fault.
use Rattle.std.specs.Prelude.{ℕ, List, Result, Ok}
use Rattle.bx_terms.specs.FixedAtoms.{fixed_atoms}
use Rattle.bx_listing.specs.Writing.{code_text}
use Rattle.bx_engine.specs.Units.{◌>>=◌, unit_in}
use Rattle.bx_engine.specs.declared.failures.Failure.{Failure}

-- the only file has number 0
abbrev pub dis_of : List ℕ → Result (List ℕ) Failure
dis_of given = unit_in 0 fixed_atoms given >>= λ unit. Ok (code_text unit.0 unit.1)
