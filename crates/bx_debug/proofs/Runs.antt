-- All runs of a process that are made one after another.
use Rattle.bx_debug.proofs.Words.{◌≡◌, ℕ, zero, suc, ◌<◌, ◌≤◌, List, ◌∷◌, replicate, true, Option, None, refl, sym, ap, ◌∙◌, subst, arith, is_some, Loaded, Choice, Run, chosen, State, stop_before, stop_behind, walked}
use Rattle.bx_debug.proofs.Words.{after_runs, least, pause_at, run_of, PlaceSet, History, with_made, world_of, Bound, Pause, Stop}
use Rattle.bx_debug.specs.Pausing.{runs_to}
use Rattle.bx_debug.proofs.Pausing.{goes_at_once, goes_on, least_before, least_there, least_within}
use Rattle.bx_debug.proofs.Walking.{one_applied, walked_on}

-- runs from the second on begin where the first led
shifted : (image : Loaded) (p : ℕ) (w : State) (n : ℕ) → after_runs image p (chosen image (Run p) w) n ≡ after_runs image p w (suc n)
shifted image p w zero = refl
shifted image p w (suc n) = ap (chosen image (Run p)) (shifted image p w n)

all_made : (image : Loaded) (places : PlaceSet) (p n : ℕ) (w : State) → ((k : ℕ) → k < n → stop_before (Run p) (after_runs image p w k) ≡ None)
    → ((k : ℕ) → suc k < n → stop_behind places (Run p) (after_runs image p w (suc k)) ≡ None) → (walked image places (replicate n (Run p)) w).0 ≡ replicate n (Run p)
all_made image places p zero w before behind = refl
all_made image places p (suc zero) w before behind =
    one_applied image places (Run p) w (before zero (omega arith))
all_made image places p (suc (suc n)) w before behind =
    let next = chosen image (Run p) w in
    ap (λ (k : List Choice × Stop). k.0) (walked_on image places (Run p) (replicate (suc n) (Run p)) w (before zero (omega arith)) (behind zero (omega arith)))
    ∙ ap (λ cs. Run p ∷ cs)
    (all_made image places p (suc n) next
    (λ k less. subst (λ (v : State). stop_before (Run p) v ≡ None) (sym (shifted image p w k)) (before (suc k) (omega (arith, less))))
    (λ k less. subst (λ (v : State). stop_behind places (Run p) v ≡ None) (sym (shifted image p w (suc k))) (behind (suc k) (omega (arith, less)))))

there_of : (why : ℕ → Option Pause) (most n : ℕ) → n ≡ least why most → n < most → is_some (why n) ≡ true
there_of why most n is less = subst (λ k. is_some (why k) ≡ true) (sym is) (least_there why most (subst (λ k. k < most) is less))

module _ (bound : Bound) (image : Loaded) (places : PlaceSet) (p : ℕ) (w : State) where
  pub no_reason_before : (k : ℕ) → k < runs_to bound image places p w → pause_at bound image places p w k ≡ None
  unfolding runs_to
  no_reason_before k less = least_before (pause_at bound image places p w) 100000 k less

  pub most_runs : runs_to bound image places p w ≤ 100000
  unfolding runs_to
  most_runs = least_within (pause_at bound image places p w) 100000

  runs_are : runs_to bound image places p w ≡ least (pause_at bound image places p w) 100000
  unfolding runs_to
  runs_are = refl

  pub reason_there : runs_to bound image places p w < 100000 → is_some (pause_at bound image places p w (runs_to bound image places p w)) ≡ true
  reason_there less = there_of (pause_at bound image places p w) 100000 (runs_to bound image places p w) runs_are less

  free_at : (k : ℕ) → pause_at bound image places p w k ≡ None → stop_before (Run p) (after_runs image p w k) ≡ None
  free_at zero is = goes_at_once bound image places p w is
  free_at (suc k) is = (goes_on bound image places p _ (after_runs image p w (suc k)) is).1

  pub each_made : (walked image places (replicate (runs_to bound image places p w) (Run p)) w).0 ≡ replicate (runs_to bound image places p w) (Run p)
  each_made =
      all_made image places p (runs_to bound image places p w) w (λ k less. free_at k (no_reason_before k less))
      (λ k less. (goes_on bound image places p _ (after_runs image p w (suc k)) (no_reason_before (suc k) less)).0)

pub runs_made : (bound : Bound) (p : ℕ) (s : History) → (run_of bound p s).0 ≡ with_made (replicate (runs_to bound s.image s.places p (world_of s)) (Run p)) s
runs_made bound p s = ap (λ cs. with_made cs s) (each_made bound s.image s.places p (world_of s))
