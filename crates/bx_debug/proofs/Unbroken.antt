-- Choices given one after another to a run, where no breakpoint is set: none is looked behind, and why it went no further is known
-- at the end.
use Rattle.bx_debug.proofs.Words.{◌≡◌, ◌≢◌, ℕ, ◌+◌, List, [], ◌∷◌, Bool, true, false, Option, Some, None, refl, sym, ap, ◌∙◌, subst, arith, Loaded, Choice, State, can, chosen, Ended, advanced, ran, come, halted}
use Rattle.bx_debug.proofs.Words.{else_stop, stop_before, Reaches, Stop}
use Rattle.std.specs.FinSet as set
use Rattle.std.proofs.lemmas.Grind.{common_steps}
use Rattle.std.proofs.lemmas.List.{append-nil}
use Rattle.bx_world.proofs.Lawful.{ran_stays}
use Rattle.bx_debug.specs.Going.{ended_by}
use Rattle.bx_debug.proofs.Leads.{advanced_enabled}
use Rattle.bx_debug.proofs.Walking.{breaks_none}
use Rattle.bx_debug.proofs.Stretches.{far_ends, far_none, far_on, reaches_applied, reaches_before, reaches_none}

-- why it went no further
abbrev pub why : Ended → Option Stop
why end = ended_by end.refused end.world.trap

-- how far a run came that had applied so many
abbrev Given : Loaded → List Choice → State → ℕ → Ended → Type 0
Given image choices w n end = (made : ℕ) × (end.applied ≡ n + made) × Reaches image set.empty choices w made end.world (why end)

given : (image : Loaded) (choices : List Choice) (w : State) (n : ℕ) → halted w.trap ≡ None → Given image choices w n (ran image choices (come w n))
given image [] w n free = (0, omega arith, subst (λ (s : Option Stop). Reaches image set.empty [] w 0 w s) (sym free) reaches_none)
given image (choice ∷ more) w n free = go (can w choice) refl (goes (halted next.trap) refl (given image more next (n + 1))) where
  next : State
  next = chosen image choice w

  goes : (stop : Option Stop) → halted next.trap ≡ stop → (halted next.trap ≡ None → Given image more next (n + 1) (ran image more (come next (n + 1))))
      → Reaches image set.empty (choice ∷ []) w 1 next (halted next.trap) → Given image (choice ∷ more) w n (ran image more (come next (n + 1)))
  goes None none further one =
      let (m, count, reaches) = further none in
      (1 + m, omega (arith, count), far_ends [] (far_on {k = 1} more (far_none refl) refl one (omega arith) none) (sym (append-nil more)) reaches (omega arith) (λ _. refl))
  goes (Some stop) trapped further one =
      let over : ran image more (come next (n + 1)) ≡ come next (n + 1) = ran_stays image more (come next (n + 1)) (grind (arith, common_steps)) in
      subst (λ (end : Ended). Given image (choice ∷ more) w n end) (sym over) (1, refl, far_ends more (far_none refl) refl one (omega arith) (λ none. cc))

  else_none : (stop : Option Stop) → else_stop stop None ≡ stop
  else_none None = refl
  else_none (Some stop) = refl

  go : (able : Bool) → can w choice ≡ able → (Reaches image set.empty (choice ∷ []) w 1 next (halted next.trap) → Given image (choice ∷ more) w n (ran image more (come next (n + 1))))
      → Given image (choice ∷ more) w n (ran image (choice ∷ more) (come w n))
  go true able goes_on =
      let free_here : stop_before choice w ≡ None = grind (arith, common_steps) in
      let why_there = ap (else_stop (halted next.trap)) (breaks_none choice next) ∙ else_none (halted next.trap) in
      subst (λ (end : Ended). Given image (choice ∷ more) w n (ran image more end)) (sym (advanced_enabled image choice w n able))
      (goes_on (subst (λ (s : Option Stop). Reaches image set.empty (choice ∷ []) w 1 next s) why_there (reaches_applied choice w free_here)))
  go false able goes_on =
      let refused : advanced image choice (come w n) ≡ record { world = w; applied = n; refused = Some choice } = grind (arith, common_steps) in
      let over = ap (ran image more) refused ∙ ran_stays image more _ refl in
      subst (λ (end : Ended). Given image (choice ∷ more) w n end) (sym over) (0, omega arith, reaches_before (grind (arith, common_steps)))

pub all_unbroken : (image : Loaded) (choices : List Choice) (w : State) (end : Ended) → end ≡ ran image choices (come w 0) → halted w.trap ≡ None → Reaches image set.empty choices w end.applied end.world (why end)
all_unbroken image choices w end is free =
    let far = given image choices w 0 free in
    subst (λ (e : Ended). Reaches image set.empty choices w e.applied e.world (why e)) (sym is)
    (subst (λ (n : ℕ). Reaches image set.empty choices w n (ran image choices (come w 0)).world (why (ran image choices (come w 0)))) (omega (arith, far.1)) far.2)

-- in a world that has trapped the walk stops before the first choice
pub reaches_nowhere : (image : Loaded) (choices : List Choice) (w : State) (stop : Stop) → choices ≢ [] → halted w.trap ≡ Some stop → Reaches image set.empty choices w 0 w (Some stop)
reaches_nowhere image [] w stop some trapped = absurd (some refl)
reaches_nowhere image (choice ∷ more) w stop some trapped = reaches_before (grind (arith, common_steps))
