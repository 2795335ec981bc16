-- Schedules in which the choices of one process stand together, and choices that are set aside with all that depends on them.
-- Source: Mazurkiewicz, "Trace Theory"; Godefroid, "Partial-Order Methods for the Verification of Concurrent Systems".
use Rattle.std.specs.Prelude.{◌≡◌, ◌==◌, ℕ, zero, suc, ◌+◌, ◌-◌, ◌<◌, ◌≤◌, nat_lt, List, [], ◌∷◌, if◌then◌else◌, take, drop, length, slice_get, Option, Some, None, option_map, Result, Ok, Err}
use Rattle.bx_terms.specs.declared.faults.Fault.{Fault, TheVariants.Memory, TheVariants.NotIndependent}
use Rattle.bx_load.specs.Image.{Loaded}
use Rattle.bx_world.specs.declared.choices.Choice.{Choice}
use Rattle.bx_world.specs.World.{State}
use Rattle.bx_world.specs.Enabled.{actor}
use Rattle.bx_world.specs.Running.{ran}
use Rattle.bx_replay.specs.Courses.{Course, reached}
use Rattle.bx_replay.specs.Exchanges.{with_exchange}
use Rattle.bx_replay.specs.Moving.{IsExchanged}
use Rattle.bx_swaps.specs.Exchanges.{from_start}
use Rattle.bx_swaps.specs.Telling.{may_exchange}

-- how many choices concern another process than the one before them
abbrev pub switches : List Choice → ℕ
switches [] = 0
switches (choice ∷ []) = 0
switches (first ∷ second ∷ more) = (if actor first == actor second then 0 else 1) + switches (second ∷ more)

-- A choice comes forward by exchanges with the one before it, past so many at most, and as long as they may be made: where it stands then,
-- and the row.
abbrev pub forward : ℕ → ℕ → Course → ℕ × Course
forward zero at c = (at, c)
forward (suc most) at c = if may_exchange (at - 1) c then forward most (at - 1) (with_exchange (at - 1) c) else (at, c)

-- how many stand before the first choice of that process
abbrev pub before_first : ℕ → List Choice → Option ℕ
before_first p [] = None
before_first p (choice ∷ more) = if actor choice == p then Some 0 else option_map suc (before_first p more)

-- how many stand before the first of the same process
abbrev pub before_alike : Option Choice → List Choice → Option ℕ
before_alike None more = None
before_alike (Some last) more = before_first (actor last) more

-- of so many choices from `at` on, how many stand before the first of the process of the one before them
abbrev pub next_alike : ℕ → ℕ → List Choice → Option ℕ
next_alike at left choices = before_alike (slice_get choices (at - 1)) (take left (drop at choices))

abbrev pub joined : ℕ → Option ℕ → Course → Course
joined at None c = c
joined at (Some steps) c = (forward steps (at + steps) c).1

-- that one comes forward to it
abbrev pub settled : ℕ → ℕ → Course → Course
settled at left c = joined at (next_alike at left c.choices) c

-- from the left, so many choices from `at` on
abbrev pub gathered : ℕ → ℕ → Course → Course
gathered zero at c = c
gathered (suc left) at c = gathered left (at + 1) (settled at (suc left) c)

-- what was given, where there are more switches in what came of it
abbrev pub unless_more : Course → Course → Course
unless_more old new = if nat_lt (switches old.choices) (switches new.choices) then old else new

-- the first so many choices, those of one process together
abbrev pub tidied_of : ℕ → Course → Course
tidied_of count c = unless_more c (gathered (count - 1) 1 c)

-- where those begin that are set aside, behind a choice that came forward to them: it joins them where it came no further than the first
abbrev pub behind_came : ℕ → ℕ → ℕ
behind_came first came = if came == first then first + 1 else first

-- so many choices from `at` on, each in front of those that are set aside, which begin at `first`; else it joins them
abbrev pub set_aside : ℕ → ℕ → ℕ → Course → Course × ℕ
set_aside zero at first c = (c, first)
set_aside (suc left) at first c =
    let came = forward (at - first) at c in
    set_aside left (at + 1) (behind_came first came.0) came.1

-- the choice at k is set aside, with all behind it that depend on it, of the first so many: the row, and where they begin
abbrev pub undone_of : ℕ → ℕ → Course → Course × ℕ
undone_of count k c = set_aside (count - (k + 1)) (k + 1) k c

-- these exchanges among the first choices, which leave no more choices that concern another process than the one before them
pub record IsTidied (count : ℕ) (old new : Course) : Type 0 where
  pub is : new ≡ tidied_of count old
  pub exchanged : IsExchanged count old new
  pub fewer : switches new.choices ≤ switches old.choices

-- exchanges among the first choices, behind which the choice at k stands at `before`
pub record IsSetAside (count k : ℕ) (old new : Course) (before : ℕ) : Type 0 where
  pub is : set_aside (count - (k + 1)) (k + 1) k old ≡ (new, before)
  pub exchanged : IsExchanged count old new
  pub back : k ≤ before
  pub within : before < count
  pub there : slice_get new.choices before ≡ slice_get old.choices k

-- the same, where the choices before it lead on from the start without it: each is applied
pub record IsUndone (count k : ℕ) (old new : Course) (before : ℕ) : Type 0 where
  pub aside : IsSetAside count k old new before
  pub leads : (reached before new).applied ≡ old.start.applied + before

-- how many choices of a schedule are applied
abbrev pub applied_of : Course → ℕ
applied_of c = (ran c.image c.choices c.start).applied

-- a tidied schedule; memory may run out wherever there is a start
abbrev pub IsTidyFrom : Loaded → State → List Choice → Result (List Choice) Fault → Type 0
IsTidyFrom image start choices (Ok new) =
    IsTidied (applied_of (from_start image start choices)) (from_start image start choices) (from_start image start new)
IsTidyFrom image start choices (Err Memory) = Unit {0}
IsTidyFrom image start choices (Err fault) = ⊥

-- where there is no start, why
abbrev pub IsTidy : Loaded → Result State Fault → List Choice → Result (List Choice) Fault → Type 0
IsTidy image (Ok start) choices answer = IsTidyFrom image start choices answer
IsTidy image (Err fault) choices answer = answer ≡ Err fault

-- a schedule with a choice set aside, and how many stand before that; or the choice is not one that was applied. Memory may run out where
-- there is a choice at that position
abbrev pub IsUndoFrom : Loaded → State → List Choice → ℕ → Result (List Choice × ℕ) Fault → Type 0
IsUndoFrom image start choices k (Ok answer) =
    IsUndone (applied_of (from_start image start choices)) k (from_start image start choices) (from_start image start answer.0) answer.1
IsUndoFrom image start choices k (Err (NotIndependent position)) = (position ≡ k) × (applied_of (from_start image start choices) ≤ k)
IsUndoFrom image start choices k (Err Memory) = k < length choices
IsUndoFrom image start choices k (Err fault) = ⊥

-- where there is no start, why
abbrev pub IsUndo : Loaded → Result State Fault → List Choice → ℕ → Result (List Choice × ℕ) Fault → Type 0
IsUndo image (Ok start) choices k answer = IsUndoFrom image start choices k answer
IsUndo image (Err fault) choices k answer = answer ≡ Err fault
