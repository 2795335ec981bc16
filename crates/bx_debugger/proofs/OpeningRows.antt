-- How a session is opened, or why it is not.
use Rattle.std.proofs.Common.{◌≡◌, ◌∙◌, inl, inr, ℕ, List, length, map, Option, Some, None, Result, Ok, Err, refl, sym, ap, subst}
use Rattle.std.specs.Prelude.{IsSome}
use Rattle.std.proofs.KnownBytes.{Keeps-refl}
use Rattle.bx_terms.specs.FixedAtoms.{fixed_atoms}
use Rattle.bx_terms.specs.Outcomes.{Gives}
use Rattle.bx_terms.specs.declared.faults.Fault.{Fault, TheVariants.Memory}
use Rattle.bx_load.specs.Image.{Loaded}
use Rattle.bx_debug.specs.Sessions.{History}
use Rattle.bx_engine.specs.Loads.{image_of, of_no_file}
use Rattle.bx_engine.specs.Runs.{Names, or_start}
use Rattle.bx_engine.specs.Sources.{Sources, sources_of}
use Rattle.bx_engine.specs.Starts.{begun_by, start_in, token_in}
use Rattle.bx_engine.specs.Units.{◌>>=◌, ClearBefore, FilesGive}
use Rattle.bx_engine.specs.declared.failures.Failure.{Failure, TheVariants.Refused, TheVariants.Read, TheVariants.Write, TheVariants.Start}
use Rattle.bx_debugger.specs.Opening.{session_at, session_of}
use Rattle.bx_debugger.specs.Talks.{Debugs, Hearing, IsBefore, Talks, begins}

-- a start begins with an atom
begun : (token : Option (List ℕ × ℕ)) (start : List ℕ) (names : Names) → token_in start 0 ≡ token → start_in start ≡ Some names → IsSome token
begun None start names t e = absurd (let none : begun_by start None ≡ Some names = ap (begun_by start) (sym t) ∙ e in cc)
begun (Some token) start names t e = refl

pub takes_start : (start : List ℕ) (names : Names) → start_in start ≡ Some names → IsSome (token_in start 0)
takes_start start names e = begun (token_in start 0) start names refl e

begun_with : (start : List ℕ) (given : List (List ℕ)) (names : Names) (said : Result Loaded Failure) → start_in start ≡ Some names → image_of given ≡ said
    → session_of start given ≡ said >>= λ image. of_no_file (session_at image names)
begun_with start given names said e i = rw (e, i) refl

-- the listings have a fault, or can't be read
pub before_image : (start : List ℕ) (given : List (List ℕ)) (names : Names) (w r : Option (List ℕ)) (failure : Failure) → start_in start ≡ Some names
    → FilesGive {X = Loaded} (λ image. image) (Err failure) (ClearBefore fixed_atoms given) (image_of given) → Debugs start given (session_of start given) w w r r (Err failure)
before_image start given names w r failure e h = inl (go failure h, Keeps-refl w, Keeps-refl r)
  where
    go : (f : Failure) → FilesGive {X = Loaded} (λ image. image) (Err f) (ClearBefore fixed_atoms given) (image_of given) → IsBefore start given (session_of start given) (Err f)
    go (Refused Memory file) g = (takes_start start names e, g)
    go (Refused fault file) g = begun_with start given names (Err (Refused fault file)) e g
    go (Read n) g = (subst IsSome (sym e) refl, g)
    go Write g = absurd g
    go Start g = absurd g

-- what the start names is not exported
pub before_session : (start : List ℕ) (given : List (List ℕ)) (names : Names) (w r : Option (List ℕ)) (image : Loaded) (fault : Fault) (takes : Type 0) → start_in start ≡ Some names
    → image_of given ≡ Ok image → Gives {X = History} takes (λ s. s) (Err fault) (session_at image names) → Debugs start given (session_of start given) w w r r (Err (Refused fault None))
before_session start given names w r image fault takes e i h = inl (go fault h, Keeps-refl w, Keeps-refl r)
  where
    go : (f : Fault) → Gives {X = History} takes (λ s. s) (Err f) (session_at image names) → IsBefore start given (session_of start given) (Err (Refused f None))
    go Memory g = (takes_start start names e, refl)
    go f g = begun_with start given names (Ok image) e i ∙ ap of_no_file g

-- nothing was read yet of the lines
begun_so : (file count : ℕ) (talk begun : Hearing) (old new had rest : Option (List ℕ)) (answer : Result (Unit {0}) Failure) → file ≡ count → talk ≡ begun
    → Talks file talk old new had rest answer → Talks count begun old new had rest answer
begun_so file count talk begun old new had rest answer n t talks =
    subst (λ k. Talks k begun old new had rest answer) n (subst (λ h. Talks file h old new had rest answer) t talks)

-- lines are read
pub debugs_so : (start : List ℕ) (given : List (List ℕ)) (names : Names) (old new had rest : Option (List ℕ)) (image : Loaded) (sources : Sources) (s : History) (file : ℕ) (talk : Hearing) (answer : Result (Unit {0}) Failure)
    → start_in start ≡ Some names → image_of given ≡ Ok image → sources ≡ sources_of given → session_at image names ≡ Ok s → file ≡ length given → talk ≡ begins sources s
    → Talks file talk old new had rest answer → Debugs start given (session_of start given) old new had rest answer
debugs_so start given names old new had rest image sources s file talk answer e i l h n t talks =
    inr (
      s,
      begun_with start given names (Ok image) e i ∙ ap of_no_file h,
      begun_so file (length given) talk (begins (sources_of given) s) old new had rest answer n (t ∙ ap (λ x. begins x s) l) talks,
    )
