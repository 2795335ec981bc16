-- The lives of processes among the events.
use Rattle.std.specs.Prelude.{ℕ, ◌+◌, List, [], ◌∷◌, ◌++◌, Option, Some, None, is_some, if◌then◌else◌, slice_get, slice_set}
use Rattle.bx_events.specs.declared.events.Event.{Event}
use Rattle.bx_events.specs.declared.events.Lane.{Lane}
use Rattle.bx_events.specs.declared.events.Stands.{Stands}
use Rattle.bx_events.specs.declared.events.Stands.TheVariants as stand

-- an event spawns a process
abbrev pub born_at : ℕ → Option ℕ → List Lane → List Lane
born_at i None lanes = lanes
born_at i (Some child) lanes = lanes ++ record { born = Some i; ended = None } ∷ []

-- a process has ended behind the first event that says so
abbrev pub closed_in : ℕ → ℕ → Option Lane → List Lane → List Lane
closed_in i p None lanes = lanes
closed_in i p (Some lane) lanes = if is_some lane.ended then lanes else slice_set lanes p (record lane { ended = Some i })

abbrev pub ended_at : ℕ → ℕ → Stands → List Lane → List Lane
ended_at i p (stand.Ended reason) lanes = closed_in i p (slice_get lanes p) lanes
ended_at i p stands lanes = lanes

abbrev pub with_event : ℕ → Event → List Lane → List Lane
with_event i event lanes = ended_at i event.actor event.stands (born_at i event.child lanes)

-- the first of these events has this position
abbrev pub lanes_on : ℕ → List Event → List Lane → List Lane
lanes_on i [] lanes = lanes
lanes_on i (event ∷ more) lanes = lanes_on (i + 1) more (with_event i event lanes)

-- the first process was there from the start
abbrev pub lanes_of : List Event → List Lane
lanes_of events = lanes_on 0 events (record { born = None; ended = None } ∷ [])
