-- Exchanges one after another, and a choice that is brought forward by them.
-- Source: Mazurkiewicz, "Trace Theory"; Godefroid, "Partial-Order Methods for the Verification of Concurrent Systems".
use Rattle.std.specs.Prelude.{◌≡◌, ℕ, ◌+◌, ◌-◌, ◌<◌, ◌≤◌, List, [], ◌∷◌, ◌++◌, take, drop, true, None}
use Rattle.bx_load.specs.Image.{Loaded}
use Rattle.bx_world.specs.declared.choices.Choice.{Choice}
use Rattle.bx_world.specs.Choosing.{chosen}
use Rattle.bx_world.specs.Enabled.{can}
use Rattle.bx_world.specs.Running.{Ended}
use Rattle.bx_world.specs.Independent.{AreIndependent}
use Rattle.bx_replay.specs.Courses.{Course}
use Rattle.bx_replay.specs.Exchanges.{exchanged_at, with_exchange, MayExchange}

-- one exchange after another, each in what the earlier ones made
abbrev pub exchanged : List ℕ → List Choice → List Choice
exchanged [] choices = choices
exchanged (i ∷ more) choices = exchanged more (exchanged_at i choices)

-- each exchange may be made, in what the earlier ones made
abbrev pub AllMay : List ℕ → Course → Type 0
AllMay [] course = Unit {0}
AllMay (i ∷ more) course = MayExchange i course × AllMay more (with_exchange i course)

-- each exchanges two of the first so many choices
abbrev pub AreWithin : ℕ → List ℕ → Type 0
AreWithin count [] = Unit {0}
AreWithin count (i ∷ more) = (i + 1 < count) × AreWithin count more

-- exchanges among the first choices, one after another, each of which may be made where it is made
pub record IsExchanged (count : ℕ) (old new : Course) : Type 0 where
  pub positions : List ℕ
  pub within : AreWithin count positions
  pub may : AllMay positions old
  pub is : new ≡ record old { choices = exchanged positions old.choices }

-- the choice at `from` stands at `to`, and those between them one further back
abbrev pub brought : ℕ → ℕ → List Choice → List Choice
brought from to choices = take to choices ++ (take 1 (drop from choices) ++ (take (from - to) (drop to choices) ++ drop (from + 1) choices))

-- a choice was brought forward by exchanges, up to the first that may not be made
pub record Brings (from to : ℕ) (old new : Course) (at : ℕ) : Type 0 where
  pub reach : to ≤ at
  pub start : at ≤ from
  pub choices : new.choices ≡ brought from at old.choices
  pub exchanges : IsExchanged (from + 1) old new
  -- each with the next one before it, which may be made where it is made
  pub steps : (i : ℕ) → at ≤ i → i < from → MayExchange i (record old { choices = brought from (i + 1) old.choices })
  pub stuck : to < at → MayExchange (at - 1) new → ⊥

-- two choices are independent where a run has come
abbrev pub IndependentAt : Loaded → Ended → Choice → Choice → Type 0
IndependentAt image here first second = (here.refused ≡ None) × AreIndependent image here.world first second

-- two choices are independent where a run has come, if the second can be made behind the first and neither traps
pub record Passes (image : Loaded) (here : Ended) (first second : Choice) : Type 0 where
  pub refused : here.refused ≡ None
  pub enabled : can here.world first ≡ true
  pub independent : (chosen image first here.world).trap ≡ None → (chosen image second (chosen image first here.world)).trap ≡ None
      → AreIndependent image here.world first second
