-- The schedule that is asked for, and failures of what is drawn.
use Rattle.std.proofs.Common.{◌≡◌, ℕ, ◌+◌, ◌<◌, Bool, false, List, [], ◌∷◌, Option, Result, Ok, Err, ap, drop, if◌then◌else◌, length, refl, subst, suc, sym, zero, ◌∙◌, arith}
use Rattle.std.specs.Option.{option_map_or}
use Rattle.std.specs.Prelude.{find, slice_get, ⊤}
use Rattle.bx_terms.specs.Outcomes.{Gives}
use Rattle.bx_terms.specs.declared.faults.Fault.{Fault, TheVariants.Memory, TheVariants.NoEntry}
use Rattle.bx_load.specs.Image.{Loaded}
use Rattle.bx_plan.specs.Plans.{Named}
use Rattle.bx_engine.specs.Loads.{image_of, plan_in}
use Rattle.bx_engine.specs.Runs.{Names, entry_in}
use Rattle.bx_engine.specs.Sources.{Sources, sources_of}
use Rattle.bx_engine.specs.Units.{◌>>=◌, FilesGive}
use Rattle.bx_engine.specs.declared.failures.Failure.{Failure}
use Rattle.bx_chart.specs.Charts.{chart_at, chart_behind, failure_of, in_plan}

-- the one at hand is found, or one behind it
pub next_found : (test : Named → Bool) (plan : List Named) (n : ℕ) → n < length plan
    → find test (drop n plan) ≡ (if option_map_or test (slice_get plan n) false then slice_get plan n else find test (drop (n + 1) plan))
next_found test [] n h = absurd (omega arith)
next_found test (schedule ∷ more) zero h = refl
next_found test (schedule ∷ more) (suc n) h = let e : suc n + 1 ≡ suc (n + 1) = omega arith in rw e (next_found test more n (omega arith))

-- a fault of the drawing is a failure
pub plan_fails : {X : Type 0} (view : X → List ℕ) (n : ℕ) (fault : Fault) (clear : ℕ → Type 0) (said : Result (List ℕ) Fault)
    → Gives ⊤ view (Err fault) said → FilesGive view (Err (failure_of n fault)) clear (in_plan n said)
plan_fails view n Memory clear said h = refl
plan_fails view n NoEntry clear said h = ap (in_plan n) h
plan_fails view n fault clear said h = ap (in_plan n) h

-- what comes of files that are read
chart_is : (names : Names) (asked : Option (List ℕ)) (given : List (List ℕ)) (planned : List ℕ) (image : Loaded) (sources : Sources) (plan : List Named) (n : ℕ)
    → image_of given ≡ Ok image → sources ≡ sources_of given → length given ≡ n → plan_in n planned ≡ Ok plan
    → chart_behind names asked given planned ≡ in_plan n (chart_at image sources (entry_in image names) asked plan)
chart_is names asked given planned image sources plan n loaded located many read = rw (loaded, many, read, sym located) refl

pub text_refused : {X : Type 0} (view : X → List ℕ) (names : Names) (asked : Option (List ℕ)) (given : List (List ℕ)) (planned : List ℕ) (image : Loaded) (sources : Sources) (plan : List Named) (n : ℕ) (fault : Fault) (failure : Failure) (clear : ℕ → Type 0)
    → image_of given ≡ Ok image → sources ≡ sources_of given → length given ≡ n → plan_in n planned ≡ Ok plan
    → Gives ⊤ view (Err fault) (chart_at image sources (entry_in image names) asked plan) → failure ≡ failure_of n fault
    → FilesGive view (Err failure) clear (chart_behind names asked given planned)
text_refused {X} view names asked given planned image sources plan n fault failure clear loaded located many read said is =
    subst (λ (f : Failure). FilesGive view (Err f) clear (chart_behind names asked given planned)) (sym is) (
    subst (λ (r : Result (List ℕ) Failure). FilesGive view (Err (failure_of n fault)) clear r) (sym (chart_is names asked given planned image sources plan n loaded located many read))
    (plan_fails view n fault clear (chart_at image sources (entry_in image names) asked plan) said))
