-- The session that a debugger opens: at the start that was named, over the listings; or the first fault.
use Rattle.std.specs.Prelude.{ℕ, List, Result, ok_or}
use Rattle.bx_terms.specs.declared.faults.Fault.{Fault, TheVariants.NoEntry}
use Rattle.bx_load.specs.Image.{Loaded}
use Rattle.bx_debug.specs.Sessions.{History, opened}
use Rattle.bx_engine.specs.Loads.{image_of, of_no_file}
use Rattle.bx_engine.specs.Runs.{Names, entry_in, or_start}
use Rattle.bx_engine.specs.Starts.{start_in}
use Rattle.bx_engine.specs.Units.{◌>>=◌}
use Rattle.bx_engine.specs.declared.failures.Failure.{Failure}

-- names that the loaded code does not hold name no export
abbrev pub session_at : Loaded → Names → Result History Fault
session_at image names = ok_or (entry_in image names) NoEntry >>= λ entry. opened image entry.0 entry.1

-- the start first, then the listings, then what the start names
abbrev pub session_of : List ℕ → List (List ℕ) → Result History Failure
session_of start given = do
  names ← or_start (start_in start)
  image ← image_of given
  of_no_file (session_at image names)
