-- Where lists of enabled choices lead.
use Rattle.bx_debug.proofs.Words.{◌≡◌, ℕ, suc, ◌+◌, List, [], ◌∷◌, ◌++◌, length, take, drop, true, false, refl, sym, ap, ◌∙◌, subst, arith, Option, Some, None, is_some, Trap, Loaded, Choice, State, can, chosen, Ended}
use Rattle.bx_debug.proofs.Words.{advanced, ran, unchosen, led, all_enabled, come}
use Rattle.std.specs.Prelude.{is_none}
use Rattle.std.proofs.lemmas.List.{take-append-drop}
use Rattle.std.proofs.lemmas.Bool.{and_parts, and_from}
use Rattle.std.proofs.lemmas.Grind.{common_steps}
use Rattle.bx_world.proofs.Lawful.{few_applied}

-- in a world that has trapped nothing is enabled
pub untrapped : (w : State) (choice : Choice) → can w choice ≡ true → is_some w.trap ≡ false
untrapped w choice able = go w.trap (and_parts (is_none w.trap) _ able).0 where
  go : (trap : Option (Trap × ℕ)) → is_none trap ≡ true → is_some trap ≡ false
  go None free = refl
  go (Some t) free = cc

pub led-append : (image : Loaded) (first more : List Choice) (w : State) → led image (first ++ more) w ≡ led image more (led image first w)
led-append image [] more w = refl
led-append image (choice ∷ first) more w = led-append image first more (chosen image choice w)

pub enabled_both : (image : Loaded) (first more : List Choice) (w : State) → all_enabled image first w ≡ true → all_enabled image more (led image first w) ≡ true → all_enabled image (first ++ more) w ≡ true
enabled_both image [] more w a b = b
enabled_both image (choice ∷ first) more w a b = let rest = enabled_both image first more (chosen image choice w) in grind (arith, common_steps, rest)

pub enabled_first : (image : Loaded) (first more : List Choice) (w : State) → all_enabled image (first ++ more) w ≡ true → all_enabled image first w ≡ true
enabled_first image [] more w a = refl
enabled_first image (choice ∷ first) more w a = let rest = enabled_first image first more (chosen image choice w) in grind (arith, common_steps, rest)

pub enabled_take : (image : Loaded) (n : ℕ) (choices : List Choice) (w : State) → all_enabled image choices w ≡ true → all_enabled image (take n choices) w ≡ true
enabled_take image n choices w a = enabled_first image (take n choices) (drop n choices) w (subst (λ (cs : List Choice). all_enabled image cs w ≡ true) (sym (take-append-drop n choices)) a)

-- an enabled choice is applied by a run
pub advanced_enabled : (image : Loaded) (choice : Choice) (w : State) (n : ℕ) → can w choice ≡ true → advanced image choice (come w n) ≡ come (chosen image choice w) (n + 1)
advanced_enabled image choice w n able = grind (arith, common_steps)

pub ran_from : (image : Loaded) (choices : List Choice) (w : State) (n : ℕ) → all_enabled image choices w ≡ true
    → ran image choices (come w n) ≡ come (led image choices w) (n + length choices)
ran_from image [] w n a = let none : n ≡ n + 0 = omega arith in ap (come w) none
ran_from image (choice ∷ more) w n a =
    let parts = and_parts (can w choice) (all_enabled image more (chosen image choice w)) a in
    let count : n + 1 + length more ≡ n + suc (length more) = omega arith in
    ap (ran image more) (advanced_enabled image choice w n parts.0)
    ∙ ran_from image more (chosen image choice w) (n + 1) parts.1
    ∙ ap (come (led image more (chosen image choice w))) count

-- the run of choices that are all enabled applies each of them
pub ran_all : (image : Loaded) (choices : List Choice) (w : State) → all_enabled image choices w ≡ true
    → ran image choices (unchosen w) ≡ record { world = led image choices w; applied = length choices; refused = None }
ran_all image choices w a = ran_from image choices w 0 a ∙ (let none : 0 + length choices ≡ length choices = omega arith in ap (come (led image choices w)) none)

-- where a run applied as many choices as it was given, each was enabled
pub all_applied : (image : Loaded) (choices : List Choice) (w : State) (n : ℕ) → (ran image choices (come w n)).applied ≡ n + length choices → all_enabled image choices w ≡ true
all_applied image [] w n all = refl
all_applied image (choice ∷ more) w n all =
    let few = few_applied image more (advanced image choice (come w n)) in
    let able : can w choice ≡ true = grind (arith, common_steps, few) in
    and_from (can w choice) _ able (all_applied image more (chosen image choice w) (n + 1) (ap (λ (e : Ended). (ran image more e).applied) (sym (advanced_enabled image choice w n able)) ∙ all ∙ omega arith))
