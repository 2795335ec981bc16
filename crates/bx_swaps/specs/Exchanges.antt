-- Exchanges in a schedule, one after another, each where the two choices are independent.
-- Source: Mazurkiewicz, "Trace Theory"; Godefroid, "Partial-Order Methods for the Verification of Concurrent Systems".
use Rattle.std.specs.Prelude.{◌≡◌, ◌⊎◌, ℕ, List, [], ◌∷◌, drop, Option, Some, None, IsSome, Result, Ok, Err}
use Rattle.bx_terms.specs.declared.faults.Fault.{Fault, TheVariants.Memory, TheVariants.NotIndependent}
use Rattle.bx_load.specs.Image.{Loaded}
use Rattle.bx_world.specs.declared.choices.Choice.{Choice}
use Rattle.bx_world.specs.World.{State}
use Rattle.bx_world.specs.Running.{unchosen}
use Rattle.bx_replay.specs.Courses.{Course}
use Rattle.bx_replay.specs.Exchanges.{next_apart, with_exchange, MayExchange}
use Rattle.bx_replay.specs.Moving.{exchanged, AllMay}

-- choices from a world on in which nothing was chosen yet
abbrev pub from_start : Loaded → State → List Choice → Course
from_start image start choices = record { image = image; start = unchosen start; choices = choices }

-- a trail of these choices from the start on; memory may run out wherever there is a start
abbrev pub BeginsFrom : Loaded → State → List Choice → Result Course Fault → Type 0
BeginsFrom image start choices (Ok course) = course ≡ from_start image start choices
BeginsFrom image start choices (Err Memory) = Unit {0}
BeginsFrom image start choices (Err fault) = ⊥

-- where there is no start, why
abbrev pub BeginsAt : Loaded → Result State Fault → List Choice → Result Course Fault → Type 0
BeginsAt image (Ok start) choices answer = BeginsFrom image start choices answer
BeginsAt image (Err fault) choices answer = answer ≡ Err fault

-- the first position at which the exchange may not be made
abbrev pub IsFirstAtFault : List ℕ → Course → ℕ → Type 0
IsFirstAtFault [] course position = ⊥
IsFirstAtFault (i ∷ more) course position =
    ((position ≡ i) × (MayExchange i course → ⊥))
    ⊎ (MayExchange i course × IsFirstAtFault more (with_exchange i course) position)

-- all are made, or one is found at fault
abbrev pub ExchangesAll : List ℕ → Course → Course → Option ℕ → Type 0
ExchangesAll positions old new None = AllMay positions old × (new ≡ record old { choices = exchanged positions old.choices })
ExchangesAll positions old new (Some position) = IsFirstAtFault positions old position

-- memory is taken only where the list alone does not tell that the first position is at fault
abbrev pub Takes : List ℕ → List Choice → Type 0
Takes [] choices = Unit {0}
Takes (i ∷ more) choices = IsSome (next_apart (drop i choices))

-- what the list alone tells of the first position
abbrev pub AtFaultAtOnce : List ℕ → List Choice → Option ℕ → Type 0
AtFaultAtOnce [] choices answer = answer ≡ None
AtFaultAtOnce (i ∷ more) choices None = IsSome (next_apart (drop i choices))
AtFaultAtOnce (i ∷ more) choices (Some position) = (position ≡ i) × (next_apart (drop i choices) ≡ None)

-- the list with each exchange made, or the first position at fault
abbrev pub IsAnswerFrom : Loaded → State → List ℕ → List Choice → Result (List Choice) Fault → Type 0
IsAnswerFrom image start positions choices (Ok new) = AllMay positions (from_start image start choices) × (new ≡ exchanged positions choices)
IsAnswerFrom image start positions choices (Err (NotIndependent position)) = IsFirstAtFault positions (from_start image start choices) position
IsAnswerFrom image start positions choices (Err Memory) = Takes positions choices
IsAnswerFrom image start positions choices (Err fault) = ⊥

-- where there is no start, why
abbrev pub IsAnswer : Loaded → Result State Fault → List ℕ → List Choice → Result (List Choice) Fault → Type 0
IsAnswer image (Ok start) positions choices answer = IsAnswerFrom image start positions choices answer
IsAnswer image (Err fault) positions choices answer = answer ≡ Err fault
