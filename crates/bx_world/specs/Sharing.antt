-- What the processes of a world share changes by.
use Rattle.std.specs.Prelude.{ℕ, List, [], ◌∷◌, ◌++◌, Bool, true, false, Option, Some, None}
use Rattle.bx_terms.specs.Tree.{Tree}
use Rattle.bx_signals.specs.declared.signal.Signal.{Signal, TheVariants.LinkExit}
use Rattle.bx_signals.specs.Channels.{Channels, put, taken, put_to_all}
use Rattle.bx_world.specs.declared.choices.Choice.{Choice, TheVariants.Run, TheVariants.Deliver, TheVariants.Expire}
use Rattle.bx_world.specs.declared.lanes.Lanes.{Lanes}
use Rattle.bx_world.specs.Enabled.{actor}
use Rattle.bx_world.specs.Deeds.{Posts, Deed}

-- a signal goes into a channel
abbrev pub telling : ℕ × ℕ → Signal → Lanes → Lanes
telling pair signal lanes = record lanes { channels = put pair signal lanes.channels }

-- process p has ended, and each of its links gets an exit signal
abbrev pub parting : ℕ → List ℕ → Tree → Lanes → Lanes
parting p links reason lanes = record lanes { channels = put_to_all p links (LinkExit reason) lanes.channels }

-- the first signal of a channel is taken
abbrev pub hearing : ℕ × ℕ → Lanes → Lanes
hearing pair lanes = record lanes { channels = taken pair lanes.channels }

-- process p displays a term
abbrev pub showing : ℕ → Tree → Lanes → Lanes
showing p term lanes = record lanes { output = lanes.output ++ (p, term) ∷ [] }

-- ---- what a process sends, takes and displays

abbrev pub all_posted : ℕ → Posts → Channels Signal → Channels Signal
all_posted p [] channels = channels
all_posted p (post ∷ more) channels = all_posted p more (put (p, post.0) post.1 channels)

abbrev pub heeded : Choice → Bool → Channels Signal → Channels Signal
heeded (Deliver p q) true channels = taken (p, q) channels
heeded (Deliver p q) false channels = channels
heeded (Run p) takes channels = channels
heeded (Expire p) takes channels = channels

abbrev pub displayed : ℕ → Option Tree → List (ℕ × Tree) → List (ℕ × Tree)
displayed p None output = output
displayed p (Some term) output = output ++ (p, term) ∷ []

-- beside the lanes
abbrev pub onto : Choice → Lanes → Deed → Lanes
onto choice lanes deed = record {
  channels = heeded choice deed.takes (all_posted (actor choice) deed.posts lanes.channels);
  output = displayed (actor choice) deed.shows lanes.output;
}
