-- How a process enters another's set of links: by that one's own `link`, by a `spawn_link` of either, or by a link signal of its own that
-- is delivered there.
-- Source: Erlang Reference Manual, "Links".
use Rattle.std.specs.Prelude.{◌≡◌, ◌⊎◌, ℕ, List, [], ◌∷◌, Bool, true, false, Option, Some, None, length, slice_get}
use Rattle.bx_load.specs.Image.{Loaded}
use Rattle.bx_signals.specs.Waiting.{first}
use Rattle.bx_signals.specs.Channels.{waiting}
use Rattle.bx_signals.specs.declared.signal.Signal.TheVariants as signals
use Rattle.bx_cells.specs.Links.{among}
use Rattle.bx_proc.specs.Stepping.{attempted}
use Rattle.bx_proc.specs.declared.parts.Effect.{Effect}
use Rattle.bx_proc.specs.declared.parts.Effect.TheVariants as effects
use Rattle.bx_world.specs.declared.choices.Choice.{Choice, TheVariants.Run, TheVariants.Deliver, TheVariants.Expire}
use Rattle.bx_world.specs.declared.requests.Request.{Request}
use Rattle.bx_world.specs.declared.requests.Request.TheVariants as requests
use Rattle.bx_world.specs.World.{Life, Live, Exited, State}
use Rattle.bx_world.specs.Requests.{requested}
use Rattle.bx_world.specs.Enabled.{can}
use Rattle.bx_world.specs.Posting.{behind}

-- a process that has ended has no links
abbrev pub holds : ℕ → Option Life → Bool
holds q (Some (Live x)) = among q x.links
holds q (Some (Exited reason)) = false
holds q None = false

-- q stands in the set of links of p
abbrev pub is_linked : List Life → ℕ → ℕ → Bool
is_linked lives p q = holds q (slice_get lives p)

abbrev pub request_in : Effect → Option Request
request_in (effects.Ask native arguments) = Some (requested native arguments)
request_in (effects.Send to message) = Some (requests.Send to message)
request_in effects.Ran = None
request_in (effects.Ended reason) = None
request_in (effects.Trap kind) = None

abbrev pub request_of : Loaded → ℕ → Option Life → Option Request
request_of image p (Some (Live x)) = request_in (attempted image p x).1
request_of image p (Some (Exited reason)) = None
request_of image p None = None

-- what the next run of p asks of the world
abbrev pub asks : Loaded → List Life → ℕ → Option Request
asks image lives p = request_of image p (slice_get lives p)

abbrev pub SpawnsLinked : Option Request → Type 0
SpawnsLinked (Some (requests.Spawn spawn)) = spawn.linked ≡ true
SpawnsLinked request = ⊥

-- a run of r by which q enters the set of p: p's own `link` to q; or a `spawn_link`, p's, whose child is q, or q's, whose child is p
abbrev pub EntersByRun : Loaded → List Life → ℕ → ℕ → ℕ → Type 0
EntersByRun image lives r p q =
    ((r ≡ p) × (asks image lives r ≡ Some (requests.Link q)))
    ⊎ (SpawnsLinked (asks image lives r) × (((r ≡ p) × (q ≡ length lives)) ⊎ ((r ≡ q) × (p ≡ length lives))))

-- a choice by which q enters the set of p
abbrev pub Enters : Loaded → State → Choice → ℕ → ℕ → Type 0
Enters image w (Run r) p q = EntersByRun image w.processes r p q
Enters image w (Deliver r s) p q = (r ≡ q) × (s ≡ p) × (first (waiting w.lanes.channels (q, p)) ≡ Some signals.Link)
Enters image w (Expire r) p q = ⊥

-- among choices in a row, one that is enabled and does
abbrev pub Entered : Loaded → List Choice → State → ℕ → ℕ → Type 0
Entered image [] w p q = ⊥
Entered image (choice ∷ more) w p q = ((can w choice ≡ true) × Enters image w choice p q) ⊎ Entered image more (behind image choice w) p q
