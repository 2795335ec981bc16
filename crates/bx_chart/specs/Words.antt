-- What a drawing says: of events, of signals, of processes and of the run.
use Rattle.std.specs.Prelude.{ℕ, ◌==◌, List, ◌++◌, [], Option, Some, None, bytes_eq, codes, chars, decimal, if◌then◌else◌, length, nat_lt, option_and_then, take}
use Rattle.std.specs.Option.{option_map_or}
use Rattle.std.proofs.Math.Utf8.{encodes}
use Rattle.bx_terms.specs.Kinds.{trap_name}
use Rattle.bx_terms.specs.Printed.{printed, printed_pid}
use Rattle.bx_terms.specs.Tree.{Tree}
use Rattle.bx_terms.specs.declared.places.Place.{Place}
use Rattle.bx_signals.specs.declared.signal.Signal.{Signal, TheVariants.Message, TheVariants.Link, TheVariants.Unlink, TheVariants.LinkExit, TheVariants.Exit}
use Rattle.bx_listing.specs.Locations.{Location}
use Rattle.bx_listing.specs.Writing.{item_words}
use Rattle.bx_load.specs.Image.{Loaded}
use Rattle.bx_load.specs.Numbering.{numbered_at}
use Rattle.bx_proc.specs.declared.parts.Status.{Status, TheVariants.Ready, TheVariants.Waiting, TheVariants.Ended}
use Rattle.bx_world.specs.Texts.{spelling}
use Rattle.bx_world.specs.declared.choices.Choice.{Choice}
use Rattle.bx_world.specs.declared.outcomes.Standing.{Standing, TheVariants.Trapped, TheVariants.Quiet, TheVariants.Open}
use Rattle.bx_events.specs.declared.events.{Effect.Effect, Event.Event, Stands.Stands, What.What}
use Rattle.bx_events.specs.declared.events.Effect.TheVariants as effects
use Rattle.bx_events.specs.declared.events.Stands.TheVariants as stand
use Rattle.bx_events.specs.declared.events.What.TheVariants as whats
use Rattle.bx_events.specs.declared.stories.Story.{Story}
use Rattle.bx_engine.specs.Sources.{Sources, location_at}

-- a text of over 40 characters is cut
abbrev pub short : List ℕ → List ℕ
short text = if nat_lt 40 (length (chars text)) then encodes (take 40 (chars text)) ++ codes ".." else text

-- ---- signals

-- a message is its term; other signals are named
abbrev pub signal_words : List (List ℕ) → Signal → List ℕ
signal_words texts (Message term) = printed texts term
signal_words texts Link = codes "link"
signal_words texts Unlink = codes "unlink"
signal_words texts (LinkExit reason) = codes "exit " ++ printed texts reason
signal_words texts (Exit reason) = codes "exit/2 " ++ printed texts reason

-- what is said where a signal came to nothing
abbrev pub effect_words : Effect → List ℕ
effect_words effects.Dropped = codes " dropped"
effect_words effects.Answered = codes " answered by noproc"
effect_words effects.Lost = codes " lost"
effect_words effect = []

-- ---- where a process stands in its source

-- `race.erl:11`
abbrev pub location_words : Location → List ℕ
location_words l = l.0 ++ codes ":" ++ decimal l.1

-- one goes on at another line of the file, or in another file
abbrev pub onward_words : Location → Location → List ℕ
onward_words from to =
    if bytes_eq from.0 to.0 then (if from.1 == to.1 then [] else codes " .. " ++ decimal to.1)
    else codes " .. " ++ location_words to

-- `race.erl:11 .. 14`
abbrev pub span_words : Option Location → Option Location → List ℕ
span_words None to = []
span_words (Some from) None = location_words from
span_words (Some from) (Some to) = location_words from ++ onward_words from to

-- ---- events

abbrev pub wait_words : Stands → List ℕ
wait_words stand.Waits = codes ", waits"
wait_words stands = []

-- from where to where a process ran, and whether it waits there
abbrev pub run_words : Sources → Event → List ℕ
run_words sources event =
    span_words (option_and_then (location_at sources) event.from) (option_and_then (location_at sources) event.to) ++ wait_words event.stands

abbrev pub what_words : Loaded → Sources → Event → What → List ℕ
what_words image sources event whats.Ran = run_words sources event
what_words image sources event (whats.Took message) = codes "takes " ++ run_words sources event
what_words image sources event (whats.Arrived sent effect) = signal_words image.atoms sent.signal ++ effect_words effect
what_words image sources event whats.Expired = codes "wait over"

-- a trap goes before all else, and what was displayed before where that was
abbrev pub said_words : Loaded → Sources → Event → Stands → Option Tree → List ℕ
said_words image sources event (stand.Trapped kind) shown = codes "trapped " ++ trap_name kind
said_words image sources event stands (Some term) = printed image.atoms term
said_words image sources event stands None = what_words image sources event event.what

abbrev pub event_words : Loaded → Sources → Event → List ℕ
event_words image sources event = said_words image sources event event.stands event.shown

-- ---- what shows where one points at an event

-- the item there as a listing writes it, without its full stop, behind a mark
abbrev pub item_at : List ℕ → Loaded → Option Place → List ℕ
item_at mark image place = option_map_or (λ item. mark ++ item_words image.atoms item) (option_and_then (numbered_at image) place) []

-- the last item of a run of several
abbrev pub last_item : Loaded → Event → List ℕ
last_item image event = if event.first == event.last then [] else item_at (codes " .. ") image event.last_from

-- what was run, or the message that was taken
abbrev pub detail_words : Loaded → Event → What → List ℕ
detail_words image event whats.Ran = item_at (codes ": ") image event.from ++ last_item image event
detail_words image event (whats.Took message) = codes ": " ++ printed image.atoms message
detail_words image event what = []

-- in full, of whatever length
abbrev pub tip_words : Loaded → Sources → Event → List ℕ
tip_words image sources event = event_words image sources event ++ detail_words image event event.what

-- ---- numbers of choices

-- `26..28`, or one number
abbrev pub number_words : ℕ → ℕ → List ℕ
number_words first last = decimal first ++ (if first == last then [] else codes ".." ++ decimal last)

-- ---- processes, and the run

abbrev pub status_words : List (List ℕ) → Status → List ℕ
status_words texts Ready = codes "ready"
status_words texts Waiting = codes "waiting"
status_words texts (Ended reason) = codes "ended " ++ printed texts reason

-- as in a report, but without the choices that are open; a refused choice goes before all else
abbrev pub state_words : Option Choice → Standing → List ℕ
state_words (Some choice) state = codes "stopped " ++ spelling choice
state_words None (Trapped kind p) = codes "trapped " ++ trap_name kind ++ codes " " ++ printed_pid p
state_words None Quiet = codes "quiet"
state_words None (Open choices) = codes "open"

abbrev pub title_words : List ℕ → List ℕ
title_words name = codes "Schedule " ++ name

-- which schedule it is, how many of its choices were applied, and where they led
abbrev pub sentence : List ℕ → Story → List ℕ
sentence name story =
    title_words name ++ codes ": " ++ decimal story.applied ++ codes " choices, state " ++ state_words story.refused story.outcome.state
