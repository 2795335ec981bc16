-- Two independent choices lead a run to the same place in both orders, and where they do they are independent.
use Rattle.std.proofs.Common.{◌≡◌, ◌≢◌, ℕ, ◌+◌, [], ◌∷◌, ◌⊎◌, inl, inr, Option, Some, None, Bool, true, false, refl, sym, ap, ◌∙◌, arith}
use Rattle.std.specs.Prelude.{◌↔◌, IsTrue, ◌&&◌, ◌||◌, is_some, is_none, slice_get}
use Rattle.bx_terms.specs.declared.kinds.Trap.{Trap}
use Rattle.bx_load.specs.Image.{Loaded}
use Rattle.bx_world.specs.declared.choices.Choice.{Choice, TheVariants.Run, TheVariants.Deliver, TheVariants.Expire}
use Rattle.bx_world.specs.World.{State}
use Rattle.bx_world.specs.Enabled.{able, can, actor}
use Rattle.bx_world.specs.Choosing.{chosen}
use Rattle.bx_world.specs.Running.{Ended, advanced, ran}
use Rattle.bx_world.specs.Independent.{runs_local, one_is_local, AreIndependent, IsLocal}
use Rattle.std.proofs.lemmas.Bool.{or_cases, true_from_ne_false}
use Rattle.bx_world.proofs.Lawful.{refused_keeps}
use Rattle.bx_world.proofs.Commuting.{beside_any}
use Rattle.bx_world.proofs.Orders.{any_beside, either_way, same_world}
use Rattle.bx_world.proofs.Children.{left_alike, second_left_alike}
use Rattle.bx_replay.specs.Exchanges.{IsSettled, SameProcess}
use Rattle.bx_replay.specs.Moving.{IndependentAt, Passes}
use Rattle.bx_replay.proofs.Prefixes.{next_is}

-- what is enabled is so in a world that has not trapped
free_of : (t : Option (Trap × ℕ)) (b : Bool) → (is_none t && b) ≡ true → t ≡ None
free_of None b h = refl
free_of (Some trap) b h = cc

pub untrapped : (w : State) (c : Choice) → can w c ≡ true → w.trap ≡ None
untrapped w c h = free_of w.trap (able c w.processes w.lanes) h

-- a choice more
abbrev pub at : State → ℕ → Ended
at w n = record { world = w; applied = n; refused = None }

pub goes_on : (image : Loaded) (c : Choice) (end : Ended) → end.refused ≡ None → can end.world c ≡ true → advanced image c end ≡ at (chosen image c end.world) (end.applied + 1)
goes_on image c end none h = next_is image c end false true (λ i. is_some (none i) || is_some (untrapped end.world c h i)) h

-- two choices
two : (image : Loaded) (a b : Choice) (end : Ended) → end.refused ≡ None → can end.world a ≡ true → can (chosen image a end.world) b ≡ true
    → ran image (a ∷ b ∷ []) end ≡ at (chosen image b (chosen image a end.world)) (end.applied + 1 + 1)
two image a b end none first second = ap (advanced image b) (goes_on image a end none first) ∙ goes_on image b (at (chosen image a end.world) (end.applied + 1)) refl second

-- both orders lead to the same place
pub same_end : (image : Loaded) (a b : Choice) (end : Ended) → IndependentAt image end a b → ran image (a ∷ b ∷ []) end ≡ ran image (b ∷ a ∷ []) end
same_end image a b end h =
    let turned = either_way image end.world a b h.1 in
    cc (two image a b end h.0 h.1.first_enabled h.1.second_applied, same_world image end.world a b h.1, two image b a end h.0 turned.first_enabled turned.second_applied)

-- both were applied, and without a trap
abbrev pub BothMade : Ended → Ended → Type 0
BothMade here there = (there.applied ≡ here.applied + 2) × (there.world.trap ≡ None)

pub both_made : (image : Loaded) (a b : Choice) (end one : Ended) → IndependentAt image end a b → one ≡ ran image (a ∷ b ∷ []) end → BothMade end one
both_made image a b end one h is =
    let done = is ∙ two image a b end h.0 h.1.first_enabled h.1.second_applied in
    (ap (λ (e : Ended). e.applied) done ∙ omega arith, ap (λ (e : Ended). e.world.trap) done ∙ h.1.second_runs)

-- an end to which both lead in this order: the second was applied behind the first, and neither trapped
record Made (image : Loaded) (a b : Choice) (w : State) (one : Ended) : Type 0 where
  first_runs : (chosen image a w).trap ≡ None
  second_runs : (chosen image b (chosen image a w)).trap ≡ None
  world : one.world ≡ chosen image b (chosen image a w)

made : (image : Loaded) (a b : Choice) (end one : Ended) → end.refused ≡ None → can end.world a ≡ true → one ≡ ran image (a ∷ b ∷ []) end → BothMade end one → Made image a b end.world one
made image a b end one none enabled is both =
    let mid = at (chosen image a end.world) (end.applied + 1) in
    let count = ap (λ (e : Ended). e.applied) (is ∙ ap (advanced image b) (goes_on image a end none enabled)) in
    let applied = true_from_ne_false (can (chosen image a end.world) b) (λ unable. omega (arith, (refused_keeps image b mid unable).1, count, both.0)) in
    let world = ap (λ (e : Ended). e.world) (is ∙ two image a b end none enabled applied) in
    record { first_runs = untrapped (chosen image a end.world) b applied; second_runs = ap (λ (w : State). w.trap) (sym world) ∙ both.1; world = world }

-- of two that concern different processes, one is local
either_local : (image : Loaded) (w : State) (a b : Choice) → one_is_local image w a b ≡ true → IsLocal image w a ⊎ IsLocal image w b
either_local image w (Run p) (Run q) h = or_cases (runs_local image p w) (runs_local image q w) h
either_local image w (Run p) (Deliver r s) h = inr tt
either_local image w (Run p) (Expire r) h = inr tt
either_local image w (Deliver p q) b h = inl tt
either_local image w (Expire p) b h = inl tt

-- two choices of different processes, both enabled where a run has come that refused none, of which one at least is local
module _ (image : Loaded) (a b : Choice) (end : Ended) (none : end.refused ≡ None)
    (may : (can end.world a ≡ true) × (can end.world b ≡ true) × (one_is_local image end.world a b ≡ true)) (apart : actor a ≢ actor b) where
  -- it is known that both lead to equal worlds, if the one is applied without a trap
  settled : IsSettled image end.world a b → (chosen image a end.world).trap ≡ None → (chosen image b (chosen image a end.world)).trap ≡ None → AreIndependent image end.world a b
  settled (inl h) a_runs b_runs = beside_any image a b end.world h.0 h.1 apart may.0 may.1 a_runs b_runs
  settled (inr h) a_runs b_runs = any_beside image a b end.world h.0 h.1 apart may.0 may.1 a_runs b_runs

  pub known_passes : IsSettled image end.world a b → Passes image end a b
  known_passes known = record { refused = none; enabled = may.0; independent = settled known }

  -- both orders were made, and leave both processes the same
  alike : (one other : Ended) → Made image a b end.world one → Made image b a end.world other → SameProcess (actor a) one.world other.world × SameProcess (actor b) one.world other.world → AreIndependent image end.world a b
  alike one other made turned both = by (either_local image end.world a b may.2) where
    same : (p : ℕ) → SameProcess p one.world other.world → SameProcess p (chosen image b (chosen image a end.world)) (chosen image a (chosen image b end.world))
    same p h = rw (made.world, turned.world) at h

    by : IsLocal image end.world a ⊎ IsLocal image end.world b → AreIndependent image end.world a b
    by (inl local) = left_alike image a b end.world local apart may.0 may.1 made.first_runs made.second_runs turned.second_runs (same (actor a) both.0)
    by (inr local) = second_left_alike image a b end.world local apart may.0 may.1 turned.first_runs made.second_runs turned.second_runs (same (actor b) both.1)

  pub tried : (one other : Ended) (agree : Bool) → one ≡ ran image (a ∷ b ∷ []) end → other ≡ ran image (b ∷ a ∷ []) end → BothMade end one → BothMade end other
      → (IsTrue agree → IsSettled image end.world a b ⊎ (SameProcess (actor a) one.world other.world × SameProcess (actor b) one.world other.world))
      → (SameProcess (actor a) one.world other.world × SameProcess (actor b) one.world other.world → IsTrue agree)
      → IsTrue agree ↔ IndependentAt image end a b
  tried one other agree one_is other_is both turned told known = (
    λ h. (none, by (told h)),
    λ h. let same = one_is ∙ same_end image a b end h ∙ sym other_is in known (ap (λ (e : Ended). slice_get e.world.processes (actor a)) same, ap (λ (e : Ended). slice_get e.world.processes (actor b)) same),
  )
    where
      there : Made image a b end.world one
      there = made image a b end one none may.0 one_is both

      by : IsSettled image end.world a b ⊎ (SameProcess (actor a) one.world other.world × SameProcess (actor b) one.world other.world) → AreIndependent image end.world a b
      by (inl h) = settled h there.first_runs there.second_runs
      by (inr h) = alike one other there (made image b a end other none may.1 other_is turned) h

-- two that pass are independent exactly where both are made in a row
pub made_or_not : (image : Loaded) (a b : Choice) (end one : Ended) (is_made : Bool) → Passes image end a b → one ≡ ran image (a ∷ b ∷ []) end → (IsTrue is_made ↔ BothMade end one) → IsTrue is_made ↔ IndependentAt image end a b
made_or_not image a b end one is_made passes is both = (
  λ h. let there = made image a b end one passes.refused passes.enabled is (both.0 h) in (passes.refused, passes.independent there.first_runs there.second_runs),
  λ h. both.1 (both_made image a b end one h is),
)
