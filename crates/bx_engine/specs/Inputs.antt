-- What reading an input comes to: all that its reader has, of at most 16,777,216 bytes.
use Rattle.std.specs.Prelude.{◌<◌, ◌≤◌, ℕ, List, Option, Some, None, length}
use Rattle.std.specs.Io.KnownBytes.{Consumes, IsAtEnd}
use Rattle.bx_terms.specs.declared.faults.Fault.TheVariants as fault
use Rattle.bx_engine.specs.declared.failures.Failure.{Failure, TheVariants.Refused, TheVariants.Read}
use Rattle.bx_engine.specs.declared.inputs.Unread.{Unread, TheVariants.TooLarge, TheVariants.Failed, TheVariants.Memory}

abbrev pub input_limit : ℕ
input_limit = 16777216

-- the reader gave these bytes, and has no more
pub record IsWhole (old new : Option (List ℕ)) (bytes : List ℕ) : Type 0 where
  pub given : Consumes old new bytes
  pub ended : IsAtEnd new
  pub within : length bytes ≤ input_limit

-- when reading stops short, by the bytes that were given: past the limit and not before it, and for
-- out of memory only where there was a byte to keep
abbrev pub StopsAt : Unread → List ℕ → Type 0
StopsAt TooLarge bytes = input_limit < length bytes
StopsAt Failed bytes = length bytes ≤ input_limit
StopsAt Memory bytes = (0 < length bytes) × (length bytes ≤ input_limit)

-- the reader gave some bytes, and reading stopped short at them
abbrev pub IsUnread : Option (List ℕ) → Option (List ℕ) → Unread → Type 0
IsUnread old new unread = (bytes : List ℕ) × Consumes old new bytes × StopsAt unread bytes

-- the failure that this is, of the file of that number; out of memory is no file's fault
abbrev pub failure_in : ℕ → Unread → Failure
failure_in file TooLarge = Refused fault.TooLarge (Some file)
failure_in file Failed = Read file
failure_in file Memory = Refused fault.Memory None
