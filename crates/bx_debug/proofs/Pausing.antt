-- How often a process runs, by what is so behind each run.
use Rattle.bx_debug.proofs.Words.{◌≡◌, ◌⊎◌, inl, inr, ℕ, zero, suc, ◌+◌, ◌<◌, ◌≤◌, ◌∷◌, replicate, true, Option, Some, None, sym, ap, ◌∙◌, subst, arith, is_some, Place, Loaded, Run, chosen, State, stop_before}
use Rattle.bx_debug.proofs.Words.{stop_behind, after_runs, least, pause_at, pause_before, pause_of, run_of, PlaceSet, History, GoTakes, gone, world_of, Bound, Pause, Stop, Done}
use Rattle.std.proofs.Common.{add-one}
use Rattle.std.proofs.lemmas.Bool.{cases_lt}
use Rattle.std.proofs.lemmas.Grind.{common_steps}
use Rattle.bx_debug.specs.Meeting.{meeting}
use Rattle.bx_debug.specs.Pausing.{or_done, pause_behind, runs_to}
use Rattle.bx_debug.specs.declared.pauses.Bound.TheVariants.{Event, Meeting}
use Rattle.bx_debug.specs.declared.pauses.Pause.TheVariants.{Stopped}
use Rattle.bx_debug.proofs.Walking.{walked_some}

-- what the least number is
pub least_before : (why : ℕ → Option Pause) (most k : ℕ) → k < least why most → why k ≡ None
least_before why zero k h = absurd (omega (arith, h))
least_before why (suc most) zero h = grind (arith, common_steps)
least_before why (suc most) (suc k) h = least_before (λ n. why (suc n)) most k (grind (arith, common_steps))

pub least_within : (why : ℕ → Option Pause) (most : ℕ) → least why most ≤ most
least_within why zero = omega arith
least_within why (suc most) = let rest = least_within (λ n. why (suc n)) most in grind (arith, common_steps)

pub least_there : (why : ℕ → Option Pause) (most : ℕ) → least why most < most → is_some (why (least why most)) ≡ true
least_there why zero h = absurd (omega (arith, h))
least_there why (suc most) h = let rest = least_there (λ n. why (suc n)) most in grind (arith, common_steps, rest)

-- and which it is
least_is : (why : ℕ → Option Pause) (most n : ℕ) → n ≤ most → ((k : ℕ) → k < n → why k ≡ None) → (n < most → is_some (why n) ≡ true) → least why most ≡ n
least_is why zero n within before there = omega arith
least_is why (suc most) zero within before there = let here = there (omega arith) in grind (arith, common_steps)
least_is why (suc most) (suc n) within before there =
    let first = before zero (omega arith) in
    let rest = least_is (λ k. why (suc k)) most n (omega arith) (λ k less. before (suc k) (omega (arith, less))) (λ less. there (omega (arith, less))) in
    grind (arith, common_steps)

-- ---- runs that are made

-- so often it has run, and there was no reason to stop
pub record Ran (bound : Bound) (image : Loaded) (places : PlaceSet) (p : ℕ) (from : State) (made : ℕ) (here : State) : Type 0 where
  pub there : here ≡ after_runs image p from made
  pub free : (k : ℕ) → k ≤ made → pause_at bound image places p from k ≡ None

pub ran_none : {bound : Bound} {image : Loaded} {places : PlaceSet} {p : ℕ} {from here : State} → here ≡ from → pause_before bound image places p from ≡ None → Ran bound image places p from 0 here
ran_none {bound} {image} {places} {p} {from} is none = record {
  there = is;
  free = λ k within. let zero_is : 0 ≡ k = omega (arith, within) in subst (λ n. pause_at bound image places p from n ≡ None) zero_is none;
}

-- so often, and why no further
runs_are : (bound : Bound) (image : Loaded) (places : PlaceSet) (p : ℕ) (from : State) (n : ℕ) (pause : Pause) → n ≤ 100000 → ((k : ℕ) → k < n → pause_at bound image places p from k ≡ None)
    → (n < 100000 → is_some (pause_at bound image places p from n) ≡ true) → pause ≡ or_done (pause_at bound image places p from n)
    → (n ≡ runs_to bound image places p from) × (pause ≡ pause_of bound image places p from)
unfolding runs_to
runs_are bound image places p from n pause within before there is =
    let times = sym (least_is (pause_at bound image places p from) 100000 n within before there) in
    (times, is ∙ ap (λ k. or_done (pause_at bound image places p from k)) times)

-- behind one run more
module _ {bound : Bound} {image : Loaded} {places : PlaceSet} {p : ℕ} {from : State} {made : ℕ} {here next : State} {met : Option Place} {why : Option Pause} (ran : Ran bound image places p from made here)
    (met_is : met ≡ meeting image p here) (next_is : next ≡ chosen image (Run p) here) (why_is : why ≡ pause_behind bound image places p met next) where
  next_there : next ≡ after_runs image p from (made + 1)
  next_there = next_is ∙ ap (chosen image (Run p)) ran.there ∙ ap (after_runs image p from) (sym (add-one made))

  why_there : why ≡ pause_at bound image places p from (made + 1)
  why_there =
      why_is ∙ (λ i. pause_behind bound image places p ((met_is ∙ ap (meeting image p) ran.there) i) ((next_is ∙ ap (chosen image (Run p)) ran.there) i))
      ∙ ap (pause_at bound image places p from) (sym (add-one made))

  pub ran_on : why ≡ None → Ran bound image places p from (made + 1) next
  ran_on none = record { there = next_there; free = λ k within. by k within (cases_lt made k) } where
    by : (k : ℕ) → k ≤ made + 1 → (made < k) ⊎ (k ≤ made) → pause_at bound image places p from k ≡ None
    by k within (inl past) = let last : made + 1 ≡ k = omega (arith, within, past) in subst (λ n. pause_at bound image places p from n ≡ None) last (sym why_there ∙ none)
    by k within (inr before) = ran.free k before

  pub ran_found : {pause : Pause} → why ≡ Some pause → made < 100000 → (made + 1 ≡ runs_to bound image places p from) × (pause ≡ pause_of bound image places p from)
  ran_found {pause} found short =
      runs_are bound image places p from (made + 1) pause (omega (arith, short)) (λ k less. ran.free k (omega (arith, less))) (λ _. ap is_some (sym why_there ∙ found)) (ap or_done (sym found ∙ why_there))

pub ran_most : {bound : Bound} {image : Loaded} {places : PlaceSet} {p : ℕ} {from : State} {made : ℕ} {here : State} → Ran bound image places p from made here → made ≡ 100000
    → (100000 ≡ runs_to bound image places p from) × (Stopped Done ≡ pause_of bound image places p from)
ran_most {bound} {image} {places} {p} {from} {made} ran all =
    runs_are bound image places p from 100000 (Stopped Done) (omega arith) (λ k less. ran.free k (omega (arith, less, all))) (λ less. absurd (omega (arith, less)))
    (ap or_done (sym (ran.free 100000 (omega (arith, all)))))

-- a process that is not idle runs
pub goes_at_once : (bound : Bound) (image : Loaded) (places : PlaceSet) (p : ℕ) (w : State) → pause_before bound image places p w ≡ None → stop_before (Run p) w ≡ None
goes_at_once Event image places p w is = grind (arith, common_steps)
goes_at_once Meeting image places p w is = grind (arith, common_steps)

-- behind a run where there is no reason to stop
pub goes_on : (bound : Bound) (image : Loaded) (places : PlaceSet) (p : ℕ) (met : Option Place) (w : State) → pause_behind bound image places p met w ≡ None
    → (stop_behind places (Run p) w ≡ None) × (stop_before (Run p) w ≡ None)
goes_on Event image places p met w is = (grind (arith, common_steps), grind (arith, common_steps))
goes_on Meeting image places p met w is = (grind (arith, common_steps), grind (arith, common_steps))

-- one run at least is made
pub run_takes : (s : History) (p times : ℕ) → 0 < times → stop_before (Run p) (world_of s) ≡ None → GoTakes (replicate times (Run p)) s
run_takes s p zero some free = absurd (omega arith)
run_takes s p (suc n) some free = walked_some s.image s.places (Run p ∷ replicate n (Run p)) (world_of s) free

-- it does not run at all
pub ran_nowhere : (bound : Bound) (p : ℕ) (s : History) (pause : Pause) → pause_before bound s.image s.places p (world_of s) ≡ Some pause → run_of bound p s ≡ (s, pause)
ran_nowhere bound p s pause is =
    let (times, why) = runs_are bound s.image s.places p (world_of s) 0 pause (omega arith) (λ k less. absurd (omega (arith, less))) (λ _. ap is_some is) (ap or_done (sym is)) in
    λ i. ((gone (replicate (sym times i) (Run p)) s).0, sym why i)

-- and so often
pub ran_so : (bound : Bound) (p : ℕ) (s new : History) (times : ℕ) (pause : Pause) (stop : Stop) → times ≡ runs_to bound s.image s.places p (world_of s) → pause ≡ pause_of bound s.image s.places p (world_of s)
    → gone (replicate times (Run p)) s ≡ (new, stop) → run_of bound p s ≡ (new, pause)
ran_so bound p s new times pause stop times_is pause_is gone_is = λ i. (((ap (λ n. gone (replicate n (Run p)) s) (sym times_is) ∙ gone_is) i).0, sym pause_is i)
