-- Where choices are stopped, and why.
use Rattle.bx_debug.proofs.Words.{◌≡◌, ◌≢◌, ◌≤◌, List, [], ◌∷◌, ◌++◌, length, true, Option, Some, None, refl, ap, subst, arith, length-append, Loaded, Choice, State, can, chosen, stop_before, stop_behind}
use Rattle.bx_debug.proofs.Words.{behind_choice, unless_stopped, walked, led, all_enabled, PlaceSet, Stop, Done, Break, NotEnabled, Trapped}
use Rattle.std.proofs.lemmas.Grind.{common_steps}
use Rattle.std.proofs.lemmas.Bool.{and_from}
use Rattle.std.proofs.lemmas.List.{nil_from_length}
use Rattle.bx_debug.specs.Stopping.{IsWhy, TellsWhy}
use Rattle.bx_debug.proofs.Walking.{enabled_unless}

-- a walk of one choice and more: it is not applied, or it is applied and stops the walk, or the walk goes on behind it
walked_cases : (image : Loaded) (places : PlaceSet) (choice : Choice) (more : List Choice) (w : State) (P : List Choice × Stop → Type 0)
    → ((stop : Stop) → stop_before choice w ≡ Some stop → P ([], stop))
    → ((stop : Stop) → stop_before choice w ≡ None → stop_behind places choice (chosen image choice w) ≡ Some stop → P (choice ∷ [], stop))
    → (stop_before choice w ≡ None → stop_behind places choice (chosen image choice w) ≡ None → P (behind_choice choice (walked image places more (chosen image choice w))))
    → P (walked image places (choice ∷ more) w)
walked_cases image places choice more w P refused stops on = go (stop_before choice w) (stop_behind places choice next) refl refl where
  next : State
  next = chosen image choice w

  go : (before behind : Option Stop) → stop_before choice w ≡ before → stop_behind places choice next ≡ behind → P (unless_stopped before (behind_choice choice (unless_stopped behind (walked image places more next))))
  go (Some stop) behind is left = refused stop is
  go None (Some stop) free is = stops stop free is
  go None None free is = on free is

pub walked_prefix : (image : Loaded) (places : PlaceSet) (choices : List Choice) (w : State) → (rest : List Choice) × (choices ≡ (walked image places choices w).0 ++ rest)
walked_prefix image places [] w = ([], refl)
walked_prefix image places (choice ∷ more) w =
    let further = walked_prefix image places more (chosen image choice w) in
    walked_cases image places choice more w (λ walk. (rest : List Choice) × (choice ∷ more ≡ walk.0 ++ rest))
    (λ stop is. (choice ∷ more, refl))
    (λ stop free is. (more, refl))
    (λ free is. (further.0, ap (λ (cs : List Choice). choice ∷ cs) further.1))

pub walked_enabled : (image : Loaded) (places : PlaceSet) (choices : List Choice) (w : State) → all_enabled image (walked image places choices w).0 w ≡ true
walked_enabled image places [] w = refl
walked_enabled image places (choice ∷ more) w =
    let further = walked_enabled image places more (chosen image choice w) in
    walked_cases image places choice more w (λ walk. all_enabled image walk.0 w ≡ true)
    (λ stop is. refl)
    (λ stop free is. and_from (can w choice) true (enabled_unless choice w free) refl)
    (λ free is. and_from (can w choice) (all_enabled image (walked image places more (chosen image choice w)).0 (chosen image choice w)) (enabled_unless choice w free) further)

-- what stands before the last of a list's elements
abbrev Earlier : Loaded → PlaceSet → State → List Choice → Type 0
Earlier image places w made = (before : List Choice) (choice : Choice) (after : List Choice) → made ≡ before ++ choice ∷ after → after ≢ [] → stop_behind places choice (led image (before ++ choice ∷ []) w) ≡ None

one_alone : (choice : Choice) (made before : List Choice) (c : Choice) (after : List Choice) → length made ≤ 1 → made ≡ before ++ c ∷ after → after ≡ []
one_alone choice made before c after few is =
    let long : length made ≡ length (before ++ c ∷ after) = ap length is in
    nil_from_length after (omega (arith, length-append before (c ∷ after)))

earlier_on : (image : Loaded) (places : PlaceSet) (choice : Choice) (rest : List Choice) (w : State) → stop_behind places choice (chosen image choice w) ≡ None → Earlier image places (chosen image choice w) rest
    → Earlier image places w (choice ∷ rest)
earlier_on image places choice rest w on further [] c after is some = let same : choice ≡ c = cc in subst (λ (d : Choice). stop_behind places d (chosen image d w) ≡ None) same on
earlier_on image places choice rest w on further (b ∷ before) c after is some =
    let same : choice ≡ b = cc in
    let others : rest ≡ before ++ c ∷ after = cc in
    subst (λ (d : Choice). stop_behind places c (led image (before ++ c ∷ []) (chosen image d w)) ≡ None) same (further before c after others some)

pub walked_earlier : (image : Loaded) (places : PlaceSet) (choices : List Choice) (w : State) → Earlier image places w (walked image places choices w).0
walked_earlier image places [] w = λ before c after is some. absurd (some (one_alone c [] before c after (omega arith) is))
walked_earlier image places (choice ∷ more) w =
    let further = walked_earlier image places more (chosen image choice w) in
    walked_cases image places choice more w (λ walk. Earlier image places w walk.0)
    (λ stop is. λ before c after whole some. absurd (some (one_alone c [] before c after (omega arith) whole)))
    (λ stop free is. λ before c after whole some. absurd (some (one_alone c (choice ∷ []) before c after (omega arith) whole)))
    (λ free is. earlier_on image places choice (walked image places more (chosen image choice w)).0 w is further)

-- why a choice is not applied
why_refused : (places : PlaceSet) (choice : Choice) (more : List Choice) (w : State) (stop : Stop) → stop_before choice w ≡ Some stop → IsWhy places (choice ∷ more) [] w stop
why_refused places choice more w Done is = grind (arith, common_steps)
why_refused places choice more w (Break p place) is = absurd (grind (arith, common_steps))
why_refused places choice more w (NotEnabled c) is = ((more, grind (arith, common_steps)), grind (arith, common_steps), grind (arith, common_steps))
why_refused places choice more w (Trapped kind p) is = grind (arith, common_steps)

-- why it stops behind a choice that was applied
why_behind : (places : PlaceSet) (choice : Choice) (more : List Choice) (w : State) (stop : Stop) → stop_behind places choice w ≡ Some stop → IsWhy places (choice ∷ more) (choice ∷ []) w stop
why_behind places choice more w Done is = grind (arith, common_steps)
why_behind places choice more w (Break p place) is = (([], grind (arith, common_steps)), grind (arith, common_steps), grind (arith, common_steps), grind (arith, common_steps))
why_behind places choice more w (NotEnabled c) is = absurd (grind (arith, common_steps))
why_behind places choice more w (Trapped kind p) is = grind (arith, common_steps)

-- why it stops further on
why_on : (places : PlaceSet) (choice : Choice) (more made : List Choice) (w : State) (stop : Stop) → IsWhy places more made w stop → IsWhy places (choice ∷ more) (choice ∷ made) w stop
why_on places choice more made w Done h = ap (λ (cs : List Choice). choice ∷ cs) h
why_on places choice more made w (Break p place) h = ((choice ∷ h.0.0, ap (λ (cs : List Choice). choice ∷ cs) h.0.1), h.1, h.2, h.3)
why_on places choice more made w (NotEnabled c) h = ((h.0.0, ap (λ (cs : List Choice). choice ∷ cs) h.0.1), h.1, h.2)
why_on places choice more made w (Trapped kind p) h = h

pub walked_why : (image : Loaded) (places : PlaceSet) (choices : List Choice) (w : State) → TellsWhy image places choices w (walked image places choices w)
walked_why image places [] w = refl
walked_why image places (choice ∷ more) w =
    let next = chosen image choice w in
    let walk = walked image places more next in
    let further = walked_why image places more next in
    walked_cases image places choice more w (TellsWhy image places (choice ∷ more) w)
    (why_refused places choice more w)
    (λ stop free. why_behind places choice more next stop)
    (λ free is. why_on places choice more walk.0 (led image walk.0 next) walk.1 further)
