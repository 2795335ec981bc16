-- What a choice brought about, told as an event behind others.
use Rattle.std.specs.Prelude.{ℕ, ◌+◌, ◌-◌, ◌==◌, List, [], ◌∷◌, ◌++◌, Bool, true, false, ◌&&◌, ◌||◌, Option, Some, None, option_map, is_none, is_some, if◌then◌else◌, length, nat_lt, slice_get, slice_set}
use Rattle.bx_terms.specs.Tree.{Tree}
use Rattle.bx_terms.specs.declared.kinds.Trap.{Trap}
use Rattle.bx_load.specs.Image.{Loaded}
use Rattle.bx_signals.specs.Waiting.{first}
use Rattle.bx_signals.specs.Channels.{Channels, waiting, pairs}
use Rattle.bx_signals.specs.declared.signal.Signal.{Signal}
use Rattle.bx_world.specs.declared.choices.Choice.{Choice, TheVariants.Run, TheVariants.Deliver, TheVariants.Expire}
use Rattle.bx_world.specs.World.{Life, State}
use Rattle.bx_world.specs.Enabled.{actor, can}
use Rattle.bx_world.specs.Changes.{after, coming}
use Rattle.bx_world.specs.Choosing.{bare, chosen}
use Rattle.bx_world.specs.Running.{Ended, advanced}
use Rattle.bx_world.specs.Seen.{place_in}
use Rattle.bx_events.specs.declared.actors.Before.{Before}
use Rattle.bx_events.specs.declared.actors.Met.{Met}
use Rattle.bx_events.specs.declared.actors.Met.TheVariants as meets
use Rattle.bx_events.specs.declared.events.Event.{Event}
use Rattle.bx_events.specs.declared.events.Put.{Put}
use Rattle.bx_events.specs.declared.events.Stands.{Stands}
use Rattle.bx_events.specs.declared.events.Stands.TheVariants as stand
use Rattle.bx_events.specs.declared.events.What.{What}
use Rattle.bx_events.specs.declared.events.What.TheVariants as whats
use Rattle.bx_events.specs.Actors.{before_of, effect_of, is_less, mail_of, run_was, stands_in}
use Rattle.bx_events.specs.Pairing.{next_sent, puts_in}

-- ---- one choice

-- behind a choice, where nothing else was on its way: what waits was put by it, and what was displayed was displayed by it
abbrev pub alone : Loaded → Choice → State → State
alone image choice w = after choice (bare choice w) (coming image choice w)

-- a choice that traps puts nothing
abbrev pub puts_unless : Option (Trap × ℕ) → Channels Signal → List Event → List Put
puts_unless None channels events = puts_in channels events (pairs channels)
puts_unless (Some trap) channels events = []

abbrev pub puts_of : State → List Event → List Put
puts_of made events = puts_unless made.trap made.lanes.channels events

abbrev pub shown_of : State → Option Tree
shown_of made = option_map (λ row. row.1) (slice_get made.lanes.output 0)

-- the process that stands behind so many others
abbrev pub child_of : ℕ → ℕ → Option ℕ
child_of before behind = if nat_lt before behind then Some before else None

-- what happened at process q, by how many messages it has behind that, and how it stands
abbrev pub what_of : ℕ → List Event → Met → Before → Option ℕ → Stands → What
what_of q events (meets.Runs next) before mail behind = run_was (is_less mail before.mail) next
what_of q events (meets.Hears p signal) before mail behind =
    whats.Arrived (next_sent (p, q) events signal) (effect_of before.stands signal (is_less before.mail mail) behind)
what_of q events meets.Expires before mail behind = whats.Expired

-- the choice of that number, by what it did alone, what was known before it, and the world behind it
abbrev pub told_by : ℕ → Choice → List Event → State → Before → State → Event
told_by n choice events made before w = record {
  first = n;
  last = n;
  actor = actor choice;
  from = before.place;
  last_from = before.place;
  to = place_in (actor choice) w;
  what = what_of (actor choice) events before.met before (mail_of (slice_get w.processes (actor choice))) (stands_in (actor choice) w);
  puts = puts_of made events;
  child = child_of before.count (length w.processes);
  shown = shown_of made;
  stands = stands_in (actor choice) w;
}

abbrev pub told : Loaded → ℕ → Choice → List Event → State → Event
told image n choice events w = told_by n choice events (alone image choice w) (before_of choice w) (chosen image choice w)

-- ---- an event behind others

abbrev pub is_run : What → Bool
is_run whats.Ran = true
is_run what = false

abbrev pub goes_on : Stands → Bool
goes_on stand.Goes = true
goes_on stand.Waits = true
goes_on stands = false

abbrev pub puts_nothing : List Put → Bool
puts_nothing [] = true
puts_nothing (put ∷ more) = false

-- runs that concern nobody else
abbrev pub is_plain : Event → Bool
is_plain event = is_run event.what && (puts_nothing event.puts && (is_none event.child && (is_none event.shown && goes_on event.stands)))

-- such runs of one process are one event
abbrev pub joins : Event → Event → Bool
joins last event = (last.actor == event.actor) && (is_plain last && is_plain event)

abbrev pub joined : Event → Event → Event
joined last event = record last { last = event.last; last_from = event.last_from; to = event.to; stands = event.stands }

abbrev pub last_of : List Event → Option Event
last_of events = slice_get events (length events - 1)

abbrev pub joins_last : Option Event → Event → Bool
joins_last None event = false
joins_last (Some last) event = joins last event

abbrev pub with_joined : Option Event → Event → List Event → List Event
with_joined None event events = events
with_joined (Some last) event events = slice_set events (length events - 1) (joined last event)

abbrev pub added : Event → List Event → List Event
added event events = if joins_last (last_of events) event then with_joined (last_of events) event events else events ++ event ∷ []

-- ---- choices in a row

-- where a run has come, and its events
pub record Telling : Type 0 where
  pub end : Ended
  pub events : List Event

abbrev pub untold : Ended → Telling
untold end = record { end = end; events = [] }

abbrev pub is_over : Ended → Bool
is_over end = is_some end.refused || is_some end.world.trap

-- a choice that is not enabled is no event
abbrev pub with_choice : Loaded → Choice → Telling → List Event
with_choice image choice t =
    if can t.end.world choice then added (told image (t.end.applied + 1) choice t.events t.end.world) t.events else t.events

abbrev pub one_told : Loaded → Choice → Telling → Telling
one_told image choice t = record {
  end = advanced image choice t.end;
  events = if is_over t.end then t.events else with_choice image choice t;
}

abbrev pub all_told : Loaded → List Choice → Telling → Telling
all_told image [] t = t
all_told image (choice ∷ more) t = all_told image more (one_told image choice t)
