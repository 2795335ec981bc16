-- Prefixes of rows, and where they lead.
use Rattle.std.proofs.Common.{◌≡◌, ℕ, suc, ◌+◌, ◌-◌, ◌≤◌, List, [], ◌∷◌, ◌++◌, length, take, drop, true, false, refl, sym, ap, ◌∙◌, arith}
use Rattle.std.specs.Prelude.{Bool, ◌||◌, if◌then◌else◌, Some, None, is_some}
use Rattle.std.proofs.lemmas.List.{length-take-le}
use Rattle.std.proofs.Math.Seq.{take-add}
use Rattle.bx_load.specs.Image.{Loaded}
use Rattle.bx_world.specs.declared.choices.Choice.{Choice}
use Rattle.bx_world.specs.Choosing.{chosen}
use Rattle.bx_world.specs.Enabled.{can}
use Rattle.bx_world.specs.Running.{Ended, advanced, ran}
use Rattle.bx_world.proofs.Lawful.{after_refusal, few_applied, ran_on, ran_stays}
use Rattle.bx_replay.specs.Courses.{Course, reached}

abbrev pub course : Loaded → Ended → List Choice → Course
course image start choices = record { image = image; start = start; choices = choices }

-- a prefix is a shorter one and what stands between both ends
pub in_two : {A : Type 0} (m n : ℕ) (xs : List A) → m ≤ n → take m xs ++ take (n - m) (drop m xs) ≡ take n xs
in_two m n xs h = let far : m + (n - m) ≡ n = omega arith in sym (take-add m (n - m) xs) ∙ ap (λ k. take k xs) far

-- from a shorter prefix on
pub onward : (image : Loaded) (start : Ended) (choices : List Choice) (m n : ℕ) (found : Ended) (row : List Choice) → m ≤ n → row ≡ choices → found ≡ ran image (take m choices) start
    → ran image (take (n - m) (drop m row)) found ≡ ran image (take n choices) start
onward image start choices m n found row h is at = cc (ran_on image (take m choices) (take (n - m) (drop m choices)) start, in_two m n choices h)

-- of so many choices no more are applied
pub bounded : (course : Course) (n : ℕ) → n ≤ length course.choices → (reached n course).applied ≤ course.start.applied + n
bounded course n h = omega (arith, few_applied course.image (take n course.choices) course.start, length-take-le n course.choices h)

-- the next choice, by whether the run has ended, and whether it is enabled
pub next_is : (image : Loaded) (choice : Choice) (end : Ended) (stays able : Bool) → (is_some end.refused || is_some end.world.trap) ≡ stays → can end.world choice ≡ able
    → advanced image choice end ≡ (if stays then end else if able then record { world = chosen image choice end.world; applied = end.applied + 1; refused = None } else record end { refused = Some choice })
next_is image choice end stays able s a =
    λ i. if s i then end else if a i then record { world = chosen image choice end.world; applied = end.applied + 1; refused = None } else record end { refused = Some choice }

-- a run that has refused none and has not trapped has applied each
pub all_made : (image : Loaded) (choices : List Choice) (end : Ended) → (ran image choices end).refused ≡ None → (ran image choices end).world.trap ≡ None → (ran image choices end).applied ≡ end.applied + length choices
all_made image [] end r t = omega arith
all_made image (choice ∷ more) end r t = by (is_some end.refused || is_some end.world.trap) (can end.world choice) refl refl (all_made image more (advanced image choice end) r t)
  where
    by : (stays able : Bool) → (is_some end.refused || is_some end.world.trap) ≡ stays → can end.world choice ≡ able
        → (ran image more (advanced image choice end)).applied ≡ (advanced image choice end).applied + length more → (ran image more (advanced image choice end)).applied ≡ end.applied + suc (length more)
    by true able s a rest = cc (ran_stays image (choice ∷ more) end s)
    by false true s a rest = omega (arith, rest, ap (λ (e : Ended). e.applied) (next_is image choice end false true s a))
    by false false s a rest = cc (ap (λ (e : Ended). e.refused) (ap (ran image more) (next_is image choice end false false s a) ∙ after_refusal image more (record end { refused = Some choice }) refl))
