-- What can be seen of a world.
use Rattle.std.specs.Prelude.{ℕ, List, [], ◌∷◌, map, Option, Some, None, slice_get}
use Rattle.bx_terms.specs.declared.kinds.Trap.{Trap}
use Rattle.bx_terms.specs.declared.places.Place.{Place}
use Rattle.bx_proc.specs.declared.parts.Status.{Status}
use Rattle.bx_proc.specs.declared.parts.Status.TheVariants as states
use Rattle.bx_world.specs.declared.choices.Choice.{Choice}
use Rattle.bx_world.specs.declared.outcomes.Outcome.{Outcome}
use Rattle.bx_world.specs.declared.outcomes.Standing.{Standing, TheVariants.Trapped, TheVariants.Quiet, TheVariants.Open}
use Rattle.bx_world.specs.declared.shown.Shown.{Shown}
use Rattle.bx_world.specs.declared.shown.Shown.TheVariants as shown
use Rattle.bx_world.specs.World.{Life, Live, Exited, State}
use Rattle.bx_world.specs.Enabled.{enabled}

abbrev pub status_of : Life → Status
status_of (Live process) = process.status
status_of (Exited reason) = states.Ended reason

-- trapped, else quiet where no choice is enabled, else open with the choices that are
abbrev pub standing_of : Option (Trap × ℕ) → List Choice → Standing
standing_of (Some trap) choices = Trapped trap.0 trap.1
standing_of None [] = Quiet
standing_of None (choice ∷ more) = Open (choice ∷ more)

abbrev pub seen : State → Outcome
seen w = record { state = standing_of w.trap (enabled w); statuses = map status_of w.processes; output = w.lanes.output }

-- where a process stands; one that has ended, and one whose function was not there, stands nowhere
abbrev pub place_of : Life → Option Place
place_of (Live process) = process.place
place_of (Exited reason) = None

abbrev pub place_at : Option Life → Option Place
place_at None = None
place_at (Some one) = place_of one

abbrev pub place_in : ℕ → State → Option Place
place_in p w = place_at (slice_get w.processes p)

-- what is shown of a process
abbrev pub life_of : Shown → Life
life_of (shown.Live process) = Live process.now
life_of (shown.Exited reason) = Exited reason.now
