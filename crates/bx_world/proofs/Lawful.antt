-- What is true of every world and every run.
use Rattle.bx_world.proofs.Words.{◌≡◌, ℕ, ◌+◌, ◌≤◌, List, [], ◌∷◌, ◌++◌, Option, Some, None, Ok, Err, Bool, true, false, length, refl, sym, ap, ◌∙◌, arith, IsSome, ◌||◌, if◌then◌else◌, is_some, Trap, Loaded}
use Rattle.bx_world.proofs.Words.{Choice, State, open_choices, unless_trapped, enabled, can, Coming, coming, after, chosen, Ended, advanced, ran}
use Rattle.std.proofs.lemmas.Bool.{or_right}
use Rattle.bx_world.specs.Running.{tried}

none_enabled : (t : Option (Trap × ℕ)) (choices : List Choice) → IsSome t → unless_trapped t choices ≡ []
none_enabled None choices h = cc
none_enabled (Some t) choices h = refl

pub nothing_enabled : (w : State) → IsSome w.trap → enabled w ≡ []
nothing_enabled w trapped = none_enabled w.trap (open_choices w.processes w.lanes) trapped

-- a choice that traps
pub trap_alone : (image : Loaded) (choice : Choice) (w : State) (trap : Trap × ℕ) → w.trap ≡ None → (chosen image choice w).trap ≡ Some trap → chosen image choice w ≡ record w { trap = Some trap }
trap_alone image choice w trap free is = go (coming image choice w) is
  where
    go : (x : Coming) → (after choice w x).trap ≡ Some trap → after choice w x ≡ record w { trap = Some trap }
    go (Ok (Ok made)) e = cc
    go (Ok (Err kind)) e = ap (λ t. record w { trap = t }) e
    go (Err fault) e = let no : None ≡ Some trap = sym free ∙ e in cc

-- a choice that is refused
world_kept : (image : Loaded) (choice : Choice) (end : Ended) (ended able : Bool) → able ≡ false
    → ((if ended then end else if able then record { world = chosen image choice end.world; applied = end.applied + 1; refused = None } else record end { refused = Some choice }).world ≡ end.world)
    × ((if ended then end else if able then record { world = chosen image choice end.world; applied = end.applied + 1; refused = None } else record end { refused = Some choice }).applied ≡ end.applied)
world_kept image choice end true able unable = (refl, refl)
world_kept image choice end false true unable = cc
world_kept image choice end false false unable = (refl, refl)

pub refused_keeps : (image : Loaded) (choice : Choice) (end : Ended) → can end.world choice ≡ false → ((advanced image choice end).world ≡ end.world) × ((advanced image choice end).applied ≡ end.applied)
refused_keeps image choice end unable = world_kept image choice end (is_some end.refused || is_some end.world.trap) (can end.world choice) unable

-- nothing happens any more
some_is : {A : Type 0} (o : Option A) → IsSome o → is_some o ≡ true
some_is None h = cc
some_is (Some x) h = refl

stays : (image : Loaded) (choice : Choice) (end : Ended) → (is_some end.refused || is_some end.world.trap) ≡ true → advanced image choice end ≡ end
stays image choice end ended = ap (λ b. if b then end else tried image choice end) ended

pub ran_stays : (image : Loaded) (choices : List Choice) (end : Ended) → (is_some end.refused || is_some end.world.trap) ≡ true → ran image choices end ≡ end
ran_stays image [] end ended = refl
ran_stays image (choice ∷ more) end ended = ap (ran image more) (stays image choice end ended) ∙ ran_stays image more end ended

pub after_refusal : (image : Loaded) (choices : List Choice) (end : Ended) → IsSome end.refused → ran image choices end ≡ end
after_refusal image choices end refused = ran_stays image choices end (ap (λ b. b || is_some end.world.trap) (some_is end.refused refused))

pub after_trap : (image : Loaded) (choices : List Choice) (end : Ended) → IsSome end.world.trap → ran image choices end ≡ end
after_trap image choices end trapped = ran_stays image choices end (or_right (is_some end.refused) (is_some end.world.trap) (some_is end.world.trap trapped))

pub ran_on : (image : Loaded) (first more : List Choice) (end : Ended) → ran image (first ++ more) end ≡ ran image more (ran image first end)
ran_on image [] more end = refl
ran_on image (choice ∷ first) more end = ran_on image first more (advanced image choice end)

-- how many are applied
one_at_most : (image : Loaded) (choice : Choice) (end : Ended) (ended able : Bool)
    → (if ended then end else if able then record { world = chosen image choice end.world; applied = end.applied + 1; refused = None } else record end { refused = Some choice }).applied ≤ end.applied + 1
one_at_most image choice end true able = omega arith
one_at_most image choice end false true = omega arith
one_at_most image choice end false false = omega arith

pub few_applied : (image : Loaded) (choices : List Choice) (end : Ended) → (ran image choices end).applied ≤ end.applied + length choices
few_applied image [] end = omega arith
few_applied image (choice ∷ more) end =
    omega (arith, few_applied image more (advanced image choice end), one_at_most image choice end (is_some end.refused || is_some end.world.trap) (can end.world choice))
