-- Walks, choice by choice.
use Rattle.bx_debug.proofs.Words.{◌≡◌, ◌≢◌, List, [], ◌∷◌, true, Option, Some, None, refl, ap, ◌∙◌, arith, if◌then◌else◌, Loaded, Choice, State, can, chosen, refusal, Place, Run, place_in, PlaceSet, numbers, pair_cmp}
use Rattle.bx_debug.proofs.Words.{break_at, break_behind, stop_at_once, stop_before, stop_behind, unless_stopped, behind_choice, walked, Stop, Break, Done}
use Rattle.std.proofs.lemmas.Grind.{common_steps}
use Rattle.std.specs.FinSet as set

-- what is applied is enabled
pub enabled_unless : (choice : Choice) (w : State) → stop_before choice w ≡ None → can w choice ≡ true
enabled_unless choice w is = grind (arith, common_steps)

pub unrefused : (choice : Choice) (w : State) → refusal w choice ≡ None → stop_before choice w ≡ None
unrefused choice w free = grind (arith, common_steps)

pub unless_is : (stop found : Option Stop) (more : List Choice × Stop) → stop ≡ found → unless_stopped stop more ≡ unless_stopped found more
unless_is stop found more is = ap (λ s. unless_stopped s more) is

-- it is applied, and the walk goes on
pub walked_on : (image : Loaded) (places : PlaceSet) (choice : Choice) (more : List Choice) (w : State) → stop_before choice w ≡ None → stop_behind places choice (chosen image choice w) ≡ None
    → walked image places (choice ∷ more) w ≡ behind_choice choice (walked image places more (chosen image choice w))
walked_on image places choice more w free is =
    unless_is (stop_before choice w) None _ free ∙ ap (behind_choice choice) (unless_is (stop_behind places choice (chosen image choice w)) None _ is)

-- none is applied
pub walked_none : (image : Loaded) (places : PlaceSet) (choices : List Choice) (w : State) (stop : Stop) → stop_at_once choices w ≡ Some stop → walked image places choices w ≡ ([], stop)
walked_none image places [] w stop is = cc
walked_none image places (choice ∷ more) w stop is = unless_is (stop_before choice w) (Some stop) _ is

-- one is applied at least
pub walked_some : (image : Loaded) (places : PlaceSet) (choices : List Choice) (w : State) → stop_at_once choices w ≡ None → (walked image places choices w).0 ≢ []
walked_some image places [] w is = cc
walked_some image places (choice ∷ more) w is = go (stop_before choice w) _ is where
  go : (before : Option Stop) (behind : List Choice × Stop) → before ≡ None → (unless_stopped before (behind_choice choice behind)).0 ≢ []
  go None behind free = λ none. cc
  go (Some stop) behind free = cc

-- one alone
pub one_applied : (image : Loaded) (places : PlaceSet) (choice : Choice) (w : State) → stop_before choice w ≡ None → (walked image places (choice ∷ []) w).0 ≡ choice ∷ []
one_applied image places choice w free = go (stop_before choice w) (stop_behind places choice (chosen image choice w)) free where
  go : (before behind : Option Stop) → before ≡ None → (unless_stopped before (behind_choice choice (unless_stopped behind ([], Done)))).0 ≡ choice ∷ []
  go None None free = refl
  go None (Some stop) free = refl
  go (Some stop) behind free = cc

-- where no breakpoint is set nothing breaks
pub breaks_none : (choice : Choice) (w : State) → break_behind set.empty choice w ≡ None
breaks_none (Run p) w = go (place_in p w) where
  go : (place : Option Place) → break_at set.empty p place ≡ None
  go None = refl
  go (Some place) = ap (λ b. if b then Some (Break p place) else None) (set.contains-empty pair_cmp (numbers place))
breaks_none other w = refl
