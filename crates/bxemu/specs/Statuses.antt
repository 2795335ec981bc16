-- The status that a run ends with.
use Rattle.std.specs.Prelude.{◌≡◌, ◌⊎◌, ℕ, Result, Ok, Err, Some}
use Rattle.clap.specs.declared.error.kind.ErrorKind.{ErrorKind, TheVariants.DisplayHelp, TheVariants.DisplayVersion, TheVariants.OutOfMemory}
use Rattle.bx_terms.specs.declared.faults.Fault.TheVariants.{BadCommand}
use Rattle.bx_engine.specs.FaultLines.{status_of}
use Rattle.bx_engine.specs.declared.failures.Failure.{Failure, TheVariants.Refused}

-- 0 where it was done, and else that of its failure
abbrev pub status_after : {A : Type 0} → Result A Failure → ℕ
status_after (Ok done) = 0
status_after (Err failure) = status_of failure

-- that a plan lacks the schedule is told as of line 1, and of the schedule's name, which has that number
abbrev pub by_name : ℕ → Failure → Failure
by_name number (Refused (BadCommand line) file) = Refused (BadCommand 1) (Some number)
by_name number failure = failure

-- by the kind of what `clap` answered in place of an order: 3 where memory ran out, 0 or 4 for a help, and else 2
abbrev pub EndsByKind : ErrorKind → ℕ → Type 0
EndsByKind kind status = ((kind ≡ OutOfMemory) × (status ≡ 3))
    ⊎ (((kind ≡ DisplayHelp) ⊎ (kind ≡ DisplayVersion)) × ((status ≡ 0) ⊎ (status ≡ 4)))
    ⊎ (status ≡ 2)
