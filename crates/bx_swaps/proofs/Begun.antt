-- Trails of a schedule from the start on, and what comes of them.
use Rattle.bx_swaps.proofs.Words.{◌≡◌, ◌∙◌, ℕ, zero, suc, ◌+◌, ◌≤◌, Bool, true, false, List, [], ◌∷◌, length, take, Result, Ok, Err, Some, None, Option, refl, sym, ap, subst, arith, not, Fault, Loaded, Choice}
use Rattle.bx_swaps.proofs.Words.{can, State, Ended, ran, few_applied, Course, reached, from_start, IsTidied, IsTidy, IsUndo, IsUndone}
use Rattle.std.specs.Prelude.{IfOk, IsSome, is_some, ◌||◌}
use Rattle.std.proofs.lemmas.List.{take_all}
use Rattle.bx_terms.specs.declared.faults.Fault.TheVariants.{NotIndependent}
use Rattle.bx_terms.specs.declared.places.Place.{Place}
use Rattle.bx_world.specs.World.{begun, begun_at}
use Rattle.bx_world.specs.Running.{advanced, unchosen}
use Rattle.bx_world.proofs.Lawful.{after_refusal, ran_stays}
use Rattle.bx_replay.proofs.Prefixes.{next_is}
use Rattle.bx_swaps.specs.Exchanges.{BeginsAt}
use Rattle.bx_swaps.proofs.Ends.{exchanged_is}
use Rattle.bx_swaps.specs.Tidying.{applied_of}

-- a trail that is made begins at a start
pub record Begun (image : Loaded) (found : Result State Fault) (choices : List Choice) (course : Course) : Type 0 where
  pub start : State
  pub there : found ≡ Ok start
  pub is : course ≡ from_start image start choices

pub begun_of : (image : Loaded) (found : Result State Fault) (choices : List Choice) (course : Course) → BeginsAt image found choices (Ok course) → Begun image found choices course
begun_of image (Ok start) choices course h = record { start = start; there = refl; is = h }
begun_of image (Err fault) choices course h = absurd (let never : Ok course ≡ Err fault = h in cc)

pub none_before : (image : Loaded) (found : Result State Fault) (choices : List Choice) (course : Course) → BeginsAt image found choices (Ok course) → course.start.applied ≡ 0
none_before image found choices course h = ap (λ (c : Course). c.start.applied) (begun_of image found choices course h).is

-- where all lead
all_of : (c : Course) → reached (length c.choices) c ≡ ran c.image c.choices c.start
all_of c = ap (λ cs. ran c.image cs c.start) (take_all (length c.choices) c.choices (omega arith))

module _ (image : Loaded) (found : Result State Fault) (choices : List Choice) (course : Course) (count : ℕ) (h : BeginsAt image found choices (Ok course)) (made : count ≡ (reached (length course.choices) course).applied) where
  abbrev b : Begun image found choices course
  b = begun_of image found choices course h

  abbrev given : Course
  given = from_start image b.start choices

  count_is : count ≡ applied_of given
  count_is = made ∙ ap (λ (e : Ended). e.applied) (all_of course) ∙ ap applied_of b.is

  pub tidy_done : (new : Course) → IsTidied count course new → IsTidy image found choices (Ok new.choices)
  tidy_done new is =
      let moved : IsTidied (applied_of given) given new = subst (λ n. IsTidied n given new) count_is (subst (λ (c : Course). IsTidied count c new) b.is is) in
      subst (λ (r : Result State Fault). IsTidy image r choices (Ok new.choices)) (sym b.there)
      (subst (λ (c : Course). IsTidied (applied_of given) given c) (exchanged_is (applied_of given) given new moved.exchanged) moved)

  pub undo_done : (new : Course) (k before : ℕ) → IsUndone count k course new before → IsUndo image found choices k (Ok (new.choices, before))
  undo_done new k before is =
      let moved : IsUndone (applied_of given) k given new before = subst (λ n. IsUndone n k given new before) count_is (subst (λ (c : Course). IsUndone count k c new before) b.is is) in
      subst (λ (r : Result State Fault). IsUndo image r choices k (Ok (new.choices, before))) (sym b.there)
      (subst (λ (c : Course). IsUndone (applied_of given) k given c before) (exchanged_is (applied_of given) given new moved.aside.exchanged) moved)

-- where the start is exported
pub export_there : (place found : Option Place) (none : Bool) → found ≡ place → is_some found ≡ not none → none ≡ false → IsSome place
export_there place found none e s f = ap (λ o. is_some o) (sym e) ∙ s ∙ ap not f

pub undo_past : (image : Loaded) (place : Option Place) (choices : List Choice) (k : ℕ) → IsSome place → length choices ≤ k → IsUndo image (begun_at place) choices k (Err (NotIndependent k))
undo_past image None choices k there past = absurd (let never : false ≡ true = there in cc)
undo_past image (Some place) choices k there past = let few = few_applied image choices (unchosen (begun place)) in (refl, omega arith)

-- ---- how many are applied

-- as many as are applied of all, the first so many are
first_of : (image : Loaded) (c : Choice) (more : List Choice) (end : Ended) (stays able : Bool) (n : ℕ) → (is_some end.refused || is_some end.world.trap) ≡ stays → can end.world c ≡ able
    → ((m : ℕ) → (ran image more (advanced image c end)).applied ≡ (advanced image c end).applied + m → (ran image (take m more) (advanced image c end)).applied ≡ (advanced image c end).applied + m)
    → (ran image (c ∷ more) end).applied ≡ end.applied + n → (ran image (take n (c ∷ more)) end).applied ≡ end.applied + n
first_of image c more end stays able zero s a rest e = omega arith
first_of image c more end true able (suc n) s a rest e =
    let same = ap (λ (x : Ended). x.applied) (ran_stays image (c ∷ more) end s) in
    absurd (omega arith)
first_of image c more end false false (suc n) s a rest e =
    let next = next_is image c end false false s a in
    let same = ap (λ (x : Ended). x.applied) (ap (ran image more) next ∙ after_refusal image more (record end { refused = Some c }) refl) in
    absurd (omega arith)
first_of image c more end false true (suc n) s a rest e =
    let one = ap (λ (x : Ended). x.applied) (next_is image c end false true s a) in
    let on = rest n (omega arith) in
    omega arith

pub all_first : (image : Loaded) (choices : List Choice) (end : Ended) (n : ℕ) → (ran image choices end).applied ≡ end.applied + n → (ran image (take n choices) end).applied ≡ end.applied + n
all_first image [] end zero e = omega arith
all_first image [] end (suc n) e = absurd (omega arith)
all_first image (c ∷ more) end n e = first_of image c more end (is_some end.refused || is_some end.world.trap) (can end.world c) n refl refl (all_first image more (advanced image c end)) e

pub applied_first : (c : Course) (n : ℕ) → c.start.applied ≡ 0 → n ≡ (reached (length c.choices) c).applied → (reached n c).applied ≡ c.start.applied + n
applied_first c n none is =
    let all = ap (λ (e : Ended). e.applied) (all_of c) in
    all_first c.image c.choices c.start n (omega arith)

pub same_then : {T E : Type 0} (r : Result T E) (P : T → Type 0) (one other : T) → IfOk r (λ t. t ≡ one) → one ≡ other → P other → IfOk r P
same_then (Ok t) P one other h e p = subst P (sym (h ∙ e)) p
same_then (Err x) P one other h e p = tt
