-- The choices that are enabled. Once a world has trapped there are none.
use Rattle.std.specs.Prelude.{ℕ, ◌+◌, List, [], ◌∷◌, ◌++◌, map, Bool, false, ◌&&◌, if◌then◌else◌, Option, Some, None, is_none, is_some, slice_get}
use Rattle.bx_terms.specs.declared.kinds.Trap.{Trap}
use Rattle.bx_signals.specs.Waiting.{first}
use Rattle.bx_signals.specs.Channels.{Channels, waiting, pairs}
use Rattle.bx_signals.specs.declared.signal.Signal.{Signal}
use Rattle.bx_proc.specs.Process.{can_run, can_expire}
use Rattle.bx_world.specs.declared.choices.Choice.{Choice, TheVariants.Run, TheVariants.Deliver, TheVariants.Expire}
use Rattle.bx_world.specs.declared.lanes.Lanes.{Lanes}
use Rattle.bx_world.specs.World.{Life, Live, Exited, State}

abbrev pub may_run : Life → Bool
may_run (Live process) = can_run process
may_run (Exited reason) = false

abbrev pub may_expire : Life → Bool
may_expire (Live process) = can_expire process
may_expire (Exited reason) = false

-- a choice of each process that passes the test, from this pid on
abbrev pub choices_from : (Life → Bool) → (ℕ → Choice) → ℕ → List Life → List Choice
choices_from may choice p [] = []
choices_from may choice p (one ∷ more) = if may one then choice p ∷ choices_from may choice (p + 1) more else choices_from may choice (p + 1) more

-- a delivery from each channel in which something waits
abbrev pub delivery : ℕ × ℕ → Choice
delivery pair = Deliver pair.0 pair.1

abbrev pub deliveries : Channels Signal → List Choice
deliveries channels = map delivery (pairs channels)

abbrev pub unless_trapped : Option (Trap × ℕ) → List Choice → List Choice
unless_trapped None choices = choices
unless_trapped (Some trap) choices = []

-- runs by rising pid, then deliveries by rising pair, then expirations by rising pid
abbrev pub open_choices : List Life → Lanes → List Choice
open_choices lives lanes = choices_from may_run Run 0 lives ++ (deliveries lanes.channels ++ choices_from may_expire Expire 0 lives)

abbrev pub enabled : State → List Choice
enabled w = unless_trapped w.trap (open_choices w.processes w.lanes)

-- one choice, looked up
abbrev pub may_at : (Life → Bool) → Option Life → Bool
may_at may None = false
may_at may (Some one) = may one

abbrev pub able : Choice → List Life → Lanes → Bool
able (Run p) lives lanes = may_at may_run (slice_get lives p)
able (Deliver p q) lives lanes = is_some (first (waiting lanes.channels (p, q)))
able (Expire p) lives lanes = may_at may_expire (slice_get lives p)

abbrev pub can : State → Choice → Bool
can w choice = is_none w.trap && able choice w.processes w.lanes

-- the process that a choice concerns
abbrev pub actor : Choice → ℕ
actor (Run p) = p
actor (Deliver p q) = q
actor (Expire p) = p
