-- Where the line of a process begins, and which events stand on it.
use Rattle.std.specs.Prelude.{◌≡◌, ℕ, ◌<◌, List, Bool, true, false, IsTrue, ◌⊎◌, Option, Some, None, slice_get}
use Rattle.bx_events.specs.declared.events.Effect.{Effect}
use Rattle.bx_events.specs.declared.events.Effect.TheVariants as effects
use Rattle.bx_events.specs.declared.events.Event.{Event}
use Rattle.bx_events.specs.declared.events.Lane.{Lane}
use Rattle.bx_events.specs.declared.events.Stands.TheVariants as stand
use Rattle.bx_events.specs.declared.events.What.{What}
use Rattle.bx_events.specs.declared.events.What.TheVariants as whats

-- process 0 was there from the start; any other was spawned by the event in the row where its line begins
abbrev pub IsBorn : List Event → ℕ → Option ℕ → Type 0
IsBorn events p None = p ≡ 0
IsBorn events p (Some row) = (0 < p) × (event : Event) × (slice_get events row ≡ Some event) × (event.child ≡ Some p)

-- a row below the one where a line begins
abbrev pub IsBelow : Option ℕ → ℕ → Type 0
IsBelow None row = Unit {0}
IsBelow (Some birth) row = birth < row

-- on this line, where there is one
abbrev pub StandsOn : Option Lane → ℕ → Type 0
StandsOn None row = ⊥
StandsOn (Some lane) row = IsBelow lane.born row

abbrev pub is_lost : Effect → Bool
is_lost effects.Lost = true
is_lost effect = false

abbrev pub loses : What → Bool
loses (whats.Arrived sent effect) = is_lost effect
loses what = false

-- a signal came to a pid that no process had, and was lost
abbrev pub FoundNobody : Event → Type 0
FoundNobody event = (event.stands ≡ stand.Absent) × IsTrue (loses event.what)

-- an event in this row stands on the line of its process, below its beginning; but a signal that found nobody
abbrev pub HasPlace : List Lane → ℕ → Event → Type 0
HasPlace lanes row event = StandsOn (slice_get lanes event.actor) row ⊎ FoundNobody event
