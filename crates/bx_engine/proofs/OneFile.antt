-- Failures over one file.
use Rattle.std.proofs.Common.{ℕ, Result, Err, ap}
use Rattle.bx_terms.specs.declared.faults.Fault.TheVariants.{Memory}
use Rattle.bx_engine.specs.Units.{◌>>=◌, FileGives}
use Rattle.bx_engine.specs.declared.failures.Failure.{Failure, TheVariants.Refused, TheVariants.Read, TheVariants.Write, TheVariants.Start}

-- a failure stays one of what follows
pub fails_on : {X Y A B : Type 0} (view : X → A) (seen : Y → B) (n : ℕ) (failure : Failure) (said : Result A Failure) (next : A → Result B Failure)
    → FileGives view n (Err failure) said → FileGives seen n (Err failure) (said >>= next)
fails_on view seen n (Refused Memory file) said next h = h
fails_on view seen n (Refused fault file) said next h = ap (λ r. r >>= next) h
fails_on view seen n (Read file) said next h = h
fails_on view seen n Write said next h = absurd h
fails_on view seen n Start said next h = absurd h
