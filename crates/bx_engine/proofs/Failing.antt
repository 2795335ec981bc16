-- A failure behind a start that was read is that of the whole, and nothing is written.
use Rattle.std.proofs.Common.{◌≡◌, ◌∙◌, ℕ, List, Option, None, Some, Result, Err, refl, sym, ap, subst}
use Rattle.std.specs.Prelude.{IsSome}
use Rattle.std.proofs.KnownBytes.{Keeps-refl}
use Rattle.bx_terms.specs.declared.faults.Fault.TheVariants.{Memory}
use Rattle.bx_engine.specs.Starts.{begun_by, start_in, token_in}
use Rattle.bx_engine.specs.Loads.{ClearUpTo}
use Rattle.bx_engine.specs.Runs.{ClearStart, Names, TakesMemory, Writes, or_start}
use Rattle.bx_engine.specs.Units.{◌>>=◌, FilesGive}
use Rattle.bx_engine.specs.declared.failures.Failure.{Failure, TheVariants.Refused, TheVariants.Read, TheVariants.Write, TheVariants.Start}

-- a start begins with an atom
begun : (token : Option (List ℕ × ℕ)) (start : List ℕ) (names : Names) → token_in start 0 ≡ token → start_in start ≡ Some names → IsSome token
begun None start names t e = absurd (let none : begun_by start None ≡ Some names = ap (begun_by start) (sym t) ∙ e in cc)
begun (Some token) start names t e = refl

pub nothing_written : {X : Type 0} (all : X → List ℕ) (failure : Failure) (names : Names) (start : List ℕ) (given : List (List ℕ)) (behind : Names → Result (List ℕ) Failure) (w : Option (List ℕ))
    → start_in start ≡ Some names → FilesGive all (Err failure) (ClearUpTo given) (behind names)
    → Writes (TakesMemory start) w w (Err failure) (ClearStart start given) (or_start (start_in start) >>= behind)
nothing_written all (Refused Memory file) names start given behind w e h = (begun (token_in start 0) start names refl e, h, Keeps-refl w)
nothing_written all (Refused fault file) names start given behind w e h =
    (ap (λ (o : Option Names). or_start o >>= behind) e ∙ h, Keeps-refl w)
nothing_written all (Read file) names start given behind w e h = ((subst IsSome (sym e) refl, h), Keeps-refl w)
nothing_written all Write names start given behind w e h = absurd h
nothing_written all Start names start given behind w e h = absurd h
