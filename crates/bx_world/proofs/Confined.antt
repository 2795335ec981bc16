-- What a change leaves of the other processes, and of one that has ended.
use Rattle.bx_world.proofs.Words.{◌≡◌, ◌≢◌, ℕ, zero, suc, ◌+◌, ◌<◌, ◌≤◌, List, [], ◌∷◌, ◌++◌, false, ◌⊎◌, inl, inr, Option, Some, None, Ok, Err, length, refl, sym, ap, subst, ◌∙◌, arith}
use Rattle.bx_world.proofs.Words.{length-append, length-set, ◌&&◌, is_none, option_map, slice_get, slice_set, Tree, Loaded, Signal, Process, Choice, Run, Deliver, Expire, Life, Live, Exited}
use Rattle.bx_world.proofs.Words.{State, can, actor, may_at, may_run, may_expire, Coming, change_of, heeds, coming, with_life, with_child, after, chosen, behind, all_behind}
use Rattle.std.proofs.lemmas.Bool.{cases_eq, and_right}
use Rattle.std.proofs.lemmas.Option.{slice_get_within, slice_get_past}
use Rattle.bx_world.proofs.Deeds.{either}

pub get_set_other : {A : Type 0} (xs : List A) (n k : ℕ) (y : A) → k ≢ n → slice_get (slice_set xs n y) k ≡ slice_get xs k
get_set_other [] n k y other = refl
get_set_other (z ∷ xs) zero zero y other = absurd (other refl)
get_set_other (z ∷ xs) zero (suc k) y other = refl
get_set_other (z ∷ xs) (suc n) zero y other = refl
get_set_other (z ∷ xs) (suc n) (suc k) y other = get_set_other xs n k y (λ same. other (ap (λ m. suc m) same))

pub get_set_same : {A : Type 0} (xs : List A) (n : ℕ) (y : A) → n < length xs → slice_get (slice_set xs n y) n ≡ Some y
get_set_same [] n y h = absurd (omega arith)
get_set_same (z ∷ xs) zero y h = refl
get_set_same (z ∷ xs) (suc n) y h = get_set_same xs n y (omega arith)

pub get_first : {A : Type 0} (xs ys : List A) (k : ℕ) → k < length xs → slice_get (xs ++ ys) k ≡ slice_get xs k
get_first [] ys k h = absurd (omega arith)
get_first (x ∷ xs) ys zero h = refl
get_first (x ∷ xs) ys (suc k) h = get_first xs ys k (omega arith)

-- what stands at the place that was written
pub got_here : {A : Type 0} (xs : List A) (n : ℕ) (y : A) → slice_get (slice_set xs n y) n ≡ option_map (λ z. y) (slice_get xs n)
got_here [] n y = refl
got_here (z ∷ xs) zero y = refl
got_here (z ∷ xs) (suc n) y = got_here xs n y

-- whoever is there has not ended
abbrev pub IsNotExited : Option Life → Type 0
IsNotExited None = Unit {0}
IsNotExited (Some (Live x)) = Unit {0}
IsNotExited (Some (Exited reason)) = ⊥

-- at most one process more, which has not ended, and the others but that one as they were
abbrev pub Confined : ℕ → List Life → List Life → Type 0
Confined p lives after =
    (length lives ≤ length after) × (length after ≤ length lives + 1) × ((q : ℕ) → q ≢ p → q < length lives → slice_get after q ≡ slice_get lives q)
    × ((q : ℕ) → q ≢ p → length lives ≤ q → IsNotExited (slice_get after q))

not_past : (lives : List Life) (q : ℕ) → length lives ≤ q → IsNotExited (slice_get lives q)
not_past lives q past = subst IsNotExited (sym (slice_get_past lives q past)) tt

last_is : (x : Process) (lives : List Life) (q : ℕ) → length lives ≤ q → IsNotExited (slice_get (lives ++ Live x ∷ []) q)
last_is x [] zero past = tt
last_is x [] (suc q) past = tt
last_is x (y ∷ lives) zero past = absurd (omega arith)
last_is x (y ∷ lives) (suc q) past = last_is x lives q (omega arith)

unchanged : (p : ℕ) (lives : List Life) → Confined p lives lives
unchanged p lives = (omega arith, omega arith, λ q other here. refl, λ q other past. not_past lives q past)

with_child_confined : (p : ℕ) (child : Option Process) (lives : List Life) → Confined p lives (with_child child lives)
with_child_confined p None lives = unchanged p lives
with_child_confined p (Some x) lives =
    let more = length-append lives (Live x ∷ []) in
    (omega (arith, more), omega (arith, more), λ q other here. get_first lives (Live x ∷ []) q here, λ q other past. last_is x lives q past)

with_life_confined : (p : ℕ) (one : Option Life) (lives more : List Life) → Confined p lives more → Confined p lives (with_life p one more)
with_life_confined p None lives more h = h
with_life_confined p (Some one) lives more h =
    let count = length-set more p one in (
      omega (arith, count, h.0),
      omega (arith, count, h.1),
      λ q other here. get_set_other more p q one other ∙ h.2 q other here,
      λ q other past. subst IsNotExited (sym (get_set_other more p q one other)) (h.3 q other past),
    )

confined : (c : Choice) (w : State) (x : Coming) → Confined (actor c) w.processes (after c w x).processes
confined c w (Ok (Ok made)) = with_life_confined (actor c) made.life w.processes (with_child made.child w.processes) (with_child_confined (actor c) made.child w.processes)
confined c w (Ok (Err kind)) = unchanged (actor c) w.processes
confined c w (Err fault) = unchanged (actor c) w.processes

pub chosen_confined : (image : Loaded) (choice : Choice) (w : State) → Confined (actor choice) w.processes (chosen image choice w).processes
chosen_confined image choice w = confined choice w (coming image choice w)

pub others_stay : (image : Loaded) (choice : Choice) (w : State) (p : ℕ) → p ≢ actor choice → p < length w.processes → slice_get (chosen image choice w).processes p ≡ slice_get w.processes p
others_stay image choice w p other here = (chosen_confined image choice w).2 p other here

-- one that has ended
abbrev HasExited : State → ℕ → Tree → Type 0
HasExited w p reason = slice_get w.processes p ≡ Some (Exited reason)

exited_here : (image : Loaded) (choice : Choice) (w : State) (reason : Tree) → HasExited w (actor choice) reason → HasExited (chosen image choice w) (actor choice) reason
exited_here image choice w reason exited =
    subst (λ (o : Option Life). HasExited (after choice w (change_of image choice o (length w.processes) (heeds choice w.lanes.channels))) (actor choice) reason) (sym exited)
    (one choice (heeds choice w.lanes.channels) exited)
  where
    one : (c : Choice) (s : Option Signal) → HasExited w (actor c) reason → HasExited (after c w (change_of image c (Some (Exited reason)) (length w.processes) s)) (actor c) reason
    one (Run p) s h = h
    one (Expire p) s h = h
    one (Deliver p q) None h = h
    one (Deliver p q) (Some s) h = get_set_same w.processes q (Exited reason) (slice_get_within w.processes q (Exited reason) h)

exited_stays : (image : Loaded) (choice : Choice) (w : State) (p : ℕ) (reason : Tree) → HasExited w p reason → HasExited (chosen image choice w) p reason
exited_stays image choice w p reason exited = one (cases_eq p (actor choice))
  where
    one : (p ≡ actor choice) ⊎ (p ≢ actor choice) → HasExited (chosen image choice w) p reason
    one (inl same) = subst (λ q. HasExited (chosen image choice w) q reason) (sym same) (exited_here image choice w reason (subst (λ q. HasExited w q reason) same exited))
    one (inr other) = (chosen_confined image choice w).2 p other (slice_get_within w.processes p (Exited reason) exited) ∙ exited

pub exited_for_ever : (image : Loaded) (choices : List Choice) (w : State) (p : ℕ) (reason : Tree) → HasExited w p reason → HasExited (all_behind image choices w) p reason
exited_for_ever image [] w p reason exited = exited
exited_for_ever image (choice ∷ more) w p reason exited =
    exited_for_ever image more (behind image choice w) p reason (either (λ v. HasExited v p reason) (can w choice) (chosen image choice w) w (exited_stays image choice w p reason exited) exited)

pub exited_cannot : (w : State) (p : ℕ) (reason : Tree) → HasExited w p reason → (can w (Run p) ≡ false) × (can w (Expire p) ≡ false)
exited_cannot w p reason exited = (
  ap (λ o. is_none w.trap && may_at may_run o) exited ∙ and_right (is_none w.trap) false refl,
  ap (λ o. is_none w.trap && may_at may_expire o) exited ∙ and_right (is_none w.trap) false refl,
)
