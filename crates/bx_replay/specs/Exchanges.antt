-- Exchanges of two choices that are next to each other in a row, where the two are independent.
-- Source: Mazurkiewicz, "Trace Theory"; Godefroid, "Partial-Order Methods for the Verification of Concurrent Systems".
use Rattle.std.specs.Prelude.{◌≡◌, ◌⊎◌, ℕ, ◌+◌, ◌<◌, List, [], ◌∷◌, Bool, true, false, ◌==◌, if◌then◌else◌, drop, length, slice_get, Option, Some, None}
use Rattle.std.specs.List.{swap}
use Rattle.bx_load.specs.Image.{Loaded}
use Rattle.bx_world.specs.declared.choices.Choice.{Choice}
use Rattle.bx_world.specs.World.{State}
use Rattle.bx_world.specs.Enabled.{actor}
use Rattle.bx_world.specs.Running.{Ended}
use Rattle.bx_world.specs.Independent.{AreIndependent, IsLocal}
use Rattle.bx_replay.specs.Courses.{Course, reached}

-- the process of that pid is the same in both, or is in neither
abbrev pub SameProcess : ℕ → State → State → Type 0
SameProcess p w v = slice_get w.processes p ≡ slice_get v.processes p

-- one of two choices concerns a process alone that is there: both orders lead to equal worlds, if one is applied without a trap
abbrev pub IsSettled : Loaded → State → Choice → Choice → Type 0
IsSettled image w first second =
    (IsLocal image w first × (actor first < length w.processes)) ⊎ (IsLocal image w second × (actor second < length w.processes))

-- the choices at i and i + 1 in each other's place
abbrev pub exchanged_at : ℕ → List Choice → List Choice
exchanged_at i choices = swap choices i (i + 1)

-- the next two choices, where they concern different processes
abbrev pub next_apart : List Choice → Option (Choice × Choice)
next_apart [] = None
next_apart (choice ∷ []) = None
next_apart (first ∷ second ∷ more) = if actor first == actor second then None else Some (first, second)

-- where a run has come, which refused no choice, the next two are independent
abbrev pub NextIndependent : Loaded → Ended → List Choice → Type 0
NextIndependent image end [] = ⊥
NextIndependent image end (choice ∷ []) = ⊥
NextIndependent image end (first ∷ second ∷ more) = (end.refused ≡ None) × AreIndependent image end.world first second

-- the choices at i and i + 1 are independent where those before them lead
abbrev pub MayExchange : ℕ → Course → Type 0
MayExchange i course = NextIndependent course.image (reached i course) (drop i course.choices)

-- the row with that exchange made
abbrev pub with_exchange : ℕ → Course → Course
with_exchange i course = record course { choices = exchanged_at i course.choices }

-- the exchange is made where it may be, and else nothing is changed
abbrev pub Exchanges : ℕ → Course → Course → Bool → Type 0
Exchanges i old new true = MayExchange i old × (new ≡ with_exchange i old)
Exchanges i old new false = (MayExchange i old → ⊥) × (new ≡ old)
