-- What is so where choices were not applied further.
use Rattle.std.specs.Prelude.{◌≡◌, ◌≤◌, List, [], ◌∷◌, ◌++◌, length, Some, None, true, false}
use Rattle.bx_load.specs.Image.{Loaded}
use Rattle.bx_world.specs.declared.choices.Choice.{Choice, TheVariants.Run}
use Rattle.bx_world.specs.World.{State}
use Rattle.bx_world.specs.Enabled.{can}
use Rattle.bx_world.specs.Running.{ran, unchosen}
use Rattle.bx_world.specs.Seen.{place_in}
use Rattle.bx_debug.specs.Leading.{led}
use Rattle.bx_debug.specs.Places.{PlaceSet, is_set}
use Rattle.bx_debug.specs.Sessions.{History, behind, world_of}
use Rattle.bx_debug.specs.declared.stops.Stop.{Stop, TheVariants.Done, TheVariants.Break, TheVariants.NotEnabled, TheVariants.Trapped}

-- all were applied; or the last was a run of this process, which stands at this breakpoint in a world that has not
-- trapped; or the next is this one, which is not enabled in a world that has not trapped; or the world has trapped
abbrev pub IsWhy : PlaceSet → List Choice → List Choice → State → Stop → Type 0
IsWhy places choices made w Done = made ≡ choices
IsWhy places choices made w (Break p place) =
    ((before : List Choice) × (made ≡ before ++ Run p ∷ [])) × (place_in p w ≡ Some place) × (is_set places place ≡ true) × (w.trap ≡ None)
IsWhy places choices made w (NotEnabled choice) = ((after : List Choice) × (choices ≡ made ++ choice ∷ after)) × (can w choice ≡ false) × (w.trap ≡ None)
IsWhy places choices made w (Trapped kind p) = w.trap ≡ Some (kind, p)

abbrev pub TellsWhy : Loaded → PlaceSet → List Choice → State → List Choice × Stop → Type 0
TellsWhy image places choices w walk = IsWhy places choices walk.0 (led image walk.0 w) walk.1

-- the session shows the run of the choices before its position, each of which was applied
pub record IsRunOf (image : Loaded) (start : State) (s : History) : Type 0 where
  pub code : s.image ≡ image
  pub begins : s.start ≡ start
  pub within : s.at ≤ length s.choices
  pub run : ran image (behind s) (unchosen start) ≡ record { world = world_of s; applied = s.at; refused = None }
