-- Choices of which memory lets only some be made.
use Rattle.std.specs.Prelude.{◌≡◌, ℕ, List, slice_get, take, Some}
use Rattle.bx_load.specs.Image.{Loaded}
use Rattle.bx_world.specs.declared.choices.Choice.{Choice}
use Rattle.bx_world.specs.Running.{Ended, ran, AdvanceTakes}

-- those are made that stand before one that takes memory
pub record LacksAmong (image : Loaded) (choices : List Choice) (old new : Ended) : Type 0 where
  pub made : ℕ
  pub choice : Choice
  pub next : slice_get choices made ≡ Some choice
  pub here : new ≡ ran image (take made choices) old
  pub takes : AdvanceTakes choice new
