-- The story of a run: its events, the lives of its processes among them, and the signals that wait at the end.
use Rattle.std.specs.Prelude.{List, Result, Ok, Err, if◌then◌else◌, length, nat_lt}
use Rattle.bx_terms.specs.Outcomes.{◌>>=◌}
use Rattle.bx_terms.specs.declared.atom_table.AtomId.{AtomId}
use Rattle.bx_terms.specs.declared.faults.Fault.{Fault, TheVariants.TooLarge}
use Rattle.bx_load.specs.Image.{Loaded}
use Rattle.bx_signals.specs.Channels.{pairs}
use Rattle.bx_world.specs.declared.choices.Choice.{Choice}
use Rattle.bx_world.specs.World.{State, started}
use Rattle.bx_world.specs.Running.{unchosen}
use Rattle.bx_world.specs.Seen.{seen}
use Rattle.bx_events.specs.declared.events.Event.{Event}
use Rattle.bx_events.specs.declared.events.Sent.{Sent}
use Rattle.bx_events.specs.declared.stories.Story.{Story}
use Rattle.bx_events.specs.Lanes.{lanes_of}
use Rattle.bx_events.specs.Pairing.{sent_in}
use Rattle.bx_events.specs.Telling.{Telling, all_told, untold}

abbrev pub waiting_of : State → List Event → List Sent
waiting_of w events = sent_in w.lanes.channels events (pairs w.lanes.channels)

abbrev pub story_at : Telling → Story
story_at t = record {
  applied = t.end.applied;
  refused = t.end.refused;
  outcome = seen t.end.world;
  events = t.events;
  lanes = lanes_of t.events;
  waiting = waiting_of t.end.world t.events;
}

-- over 20,000 events are too many
abbrev pub story_of : Telling → Result Story Fault
story_of t = if nat_lt 20000 (length t.events) then Err TooLarge else Ok (story_at t)

abbrev pub story_from : Loaded → List Choice → State → Result Story Fault
story_from image choices w = story_of (all_told image choices (untold (unchosen w)))

-- of a run from a start, which has to be exported
abbrev pub story : Loaded → AtomId → AtomId → List Choice → Result Story Fault
story image m f choices = started image m f >>= story_from image choices
