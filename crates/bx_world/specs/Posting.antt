-- What choices put into channels, and what they take out of them.
use Rattle.std.specs.Prelude.{ℕ, List, [], ◌∷◌, ◌++◌, Bool, true, false, ◌&&◌, ◌==◌, Option, Some, None, Ok, Err, if◌then◌else◌}
use Rattle.bx_load.specs.Image.{Loaded}
use Rattle.bx_signals.specs.Waiting.{first}
use Rattle.bx_signals.specs.Channels.{Channels, waiting}
use Rattle.bx_signals.specs.declared.signal.Signal.{Signal}
use Rattle.bx_world.specs.declared.choices.Choice.{Choice, TheVariants.Run, TheVariants.Deliver, TheVariants.Expire}
use Rattle.bx_world.specs.World.{State}
use Rattle.bx_world.specs.Enabled.{can, actor}
use Rattle.bx_world.specs.Deeds.{Posts}
use Rattle.bx_world.specs.Changes.{Coming, coming}
use Rattle.bx_world.specs.Choosing.{chosen}

abbrev pub same_pair : ℕ × ℕ → ℕ × ℕ → Bool
same_pair a b = (a.0 == b.0) && (a.1 == b.1)

-- of what process p sends that which goes into this channel
abbrev pub in_channel : ℕ → ℕ × ℕ → Posts → List Signal
in_channel p pair [] = []
in_channel p pair (post ∷ more) = if same_pair pair (p, post.0) then post.1 ∷ in_channel p pair more else in_channel p pair more

abbrev pub as_row : {A : Type 0} → Option A → List A
as_row None = []
as_row (Some x) = x ∷ []

-- the first signal of this channel, where the choice names it and takes one
abbrev pub first_of : Choice → Bool → ℕ × ℕ → Channels Signal → List Signal
first_of (Deliver p q) true pair channels = if same_pair pair (p, q) then as_row (first (waiting channels pair)) else []
first_of (Deliver p q) false pair channels = []
first_of (Run p) takes pair channels = []
first_of (Expire p) takes pair channels = []

-- a trap puts nothing and takes nothing
abbrev pub put_by : Choice → ℕ × ℕ → Coming → List Signal
put_by choice pair (Ok (Ok made)) = in_channel (actor choice) pair made.posts
put_by choice pair (Ok (Err kind)) = []
put_by choice pair (Err fault) = []

abbrev pub taken_by : Choice → ℕ × ℕ → Channels Signal → Coming → List Signal
taken_by choice pair channels (Ok (Ok made)) = first_of choice made.takes pair channels
taken_by choice pair channels (Ok (Err kind)) = []
taken_by choice pair channels (Err fault) = []

-- the signals that a choice puts into this channel; one that is not enabled puts nothing and takes nothing
abbrev pub put_in : Loaded → Choice → State → ℕ × ℕ → List Signal
put_in image choice w pair = if can w choice then put_by choice pair (coming image choice w) else []

-- the signals that a choice takes out of this channel
abbrev pub taken_from : Loaded → Choice → State → ℕ × ℕ → List Signal
taken_from image choice w pair = if can w choice then taken_by choice pair w.lanes.channels (coming image choice w) else []

-- the world behind a choice; one that is not enabled changes nothing
abbrev pub behind : Loaded → Choice → State → State
behind image choice w = if can w choice then chosen image choice w else w

-- the same over choices in a row
abbrev pub all_behind : Loaded → List Choice → State → State
all_behind image [] w = w
all_behind image (choice ∷ more) w = all_behind image more (behind image choice w)

abbrev pub all_put : Loaded → List Choice → State → ℕ × ℕ → List Signal
all_put image [] w pair = []
all_put image (choice ∷ more) w pair = put_in image choice w pair ++ all_put image more (behind image choice w) pair

abbrev pub all_taken : Loaded → List Choice → State → ℕ × ℕ → List Signal
all_taken image [] w pair = []
all_taken image (choice ∷ more) w pair = taken_from image choice w pair ++ all_taken image more (behind image choice w) pair
