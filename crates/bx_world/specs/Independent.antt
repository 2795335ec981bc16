-- Which choices in a row are independent: each may be made first, and both orders lead to the same world.
-- Source: Godefroid, "Partial-Order Methods for the Verification of Concurrent Systems", "Independence".
use Rattle.std.specs.Prelude.{◌≡◌, ◌≢◌, ℕ, ◌||◌, [], ◌∷◌, Bool, true, false, Option, Some, None}
use Rattle.bx_terms.specs.declared.places.Place.{Place}
use Rattle.bx_ops.specs.Classes.{is_local}
use Rattle.bx_listing.specs.Items.{Item}
use Rattle.bx_load.specs.Image.{Loaded}
use Rattle.bx_load.specs.Numbering.{numbered_at}
use Rattle.bx_world.specs.declared.choices.Choice.{Choice, TheVariants.Run, TheVariants.Deliver, TheVariants.Expire}
use Rattle.bx_world.specs.World.{State}
use Rattle.bx_world.specs.Enabled.{can, actor}
use Rattle.bx_world.specs.Choosing.{chosen}
use Rattle.bx_world.specs.Posting.{all_behind}
use Rattle.bx_world.specs.Seen.{place_in}

abbrev pub is_local_item : Option Item → Bool
is_local_item (Some item) = is_local item.op
is_local_item None = false

abbrev pub is_local_at : Loaded → Option Place → Bool
is_local_at image (Some place) = is_local_item (numbered_at image place)
is_local_at image None = false

-- p has an address, and a run of the item there concerns p alone
abbrev pub runs_local : Loaded → ℕ → State → Bool
runs_local image p w = is_local_at image (place_in p w)

-- of two runs at least one is local
abbrev pub one_is_local : Loaded → State → Choice → Choice → Bool
one_is_local image w (Run p) (Run q) = runs_local image p w || runs_local image q w
one_is_local image w (Run p) (Deliver r s) = true
one_is_local image w (Run p) (Expire r) = true
one_is_local image w (Deliver p q) other = true
one_is_local image w (Expire p) other = true

-- the first choice and then the second, from this world
pub record AreIndependent (image : Loaded) (w : State) (first second : Choice) : Type 0 where
  -- both are enabled before the first
  pub first_enabled : can w first ≡ true
  pub second_enabled : can w second ≡ true
  -- both are applied, and neither traps
  pub first_runs : (chosen image first w).trap ≡ None
  pub second_applied : can (chosen image first w) second ≡ true
  pub second_runs : (chosen image second (chosen image first w)).trap ≡ None
  -- they concern different processes
  pub apart : actor first ≢ actor second
  pub local : one_is_local image w first second ≡ true
  -- the other order leads to the same world
  pub same : all_behind image (first ∷ second ∷ []) w ≡ all_behind image (second ∷ first ∷ []) w

-- no run
abbrev pub IsNoRun : Choice → Type 0
IsNoRun (Run p) = ⊥
IsNoRun (Deliver p q) = Unit {0}
IsNoRun (Expire p) = Unit {0}

-- it concerns its own process alone: no run, or a run of a local item
abbrev pub IsLocal : Loaded → State → Choice → Type 0
IsLocal image w (Run p) = runs_local image p w ≡ true
IsLocal image w (Deliver p q) = Unit {0}
IsLocal image w (Expire p) = Unit {0}
