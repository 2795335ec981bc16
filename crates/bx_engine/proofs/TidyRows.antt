-- Lines of tidied schedules, one behind the other.
use Rattle.std.proofs.Common.{◌≡◌, ◌∙◌, ℕ, ◌+◌, ◌<◌, List, [], ◌∷◌, ◌++◌, length, take, Option, Some, None, Result, Ok, Err, append-nil, append_assoc, refl, sym, ap, subst}
use Rattle.std.specs.Prelude.{codes, slice_get, slice_index_or, false, true, IsOk, IsSome}
use Rattle.std.proofs.lemmas.List.{take_more}
use Rattle.std.proofs.lemmas.Option.{slice_get-get_or}
use Rattle.bx_terms.specs.declared.faults.Fault.{Fault}
use Rattle.bx_load.specs.Image.{Loaded}
use Rattle.bx_plan.specs.Plans.{Named}
use Rattle.bx_world.specs.World.{State, begun_at}
use Rattle.bx_terms.specs.declared.places.Place.{Place}
use Rattle.bx_engine.specs.PlanLines.{plan_line}
use Rattle.bx_engine.specs.Tidying.{AreLinesOf, AreTidied, PushesAt, PushesTidied, TidiesAt, plan_text}

one_more : (image : Loaded) (start : State) (olds news : List Named) (old new : Named) → AreTidied image start olds news → AreTidied image start (old ∷ []) (new ∷ []) → AreTidied image start (olds ++ old ∷ []) (news ++ new ∷ [])
one_more image start [] [] old new are is = is
one_more image start [] (n ∷ news) old new are is = absurd are
one_more image start (o ∷ olds) [] old new are is = absurd are
one_more image start (o ∷ olds) (n ∷ news) old new are is = (are.0, are.1, one_more image start olds news old new are.2 is)

text_more : (plan : List Named) (new : Named) → plan_text (plan ++ new ∷ []) ≡ plan_text plan ++ (plan_line new.0 new.1 ++ codes "\n")
text_more [] new = append-nil (plan_line new.0 new.1 ++ codes "\n")
text_more (s ∷ plan) new =
    ap (λ t. (plan_line s.0 s.1 ++ codes "\n") ++ t) (text_more plan new)
    ∙ sym (append_assoc (plan_line s.0 s.1 ++ codes "\n") (plan_text plan) (plan_line new.0 new.1 ++ codes "\n"))

pushed_more : (image : Loaded) (start : State) (before : List Named) (schedule : Named) (old new : List ℕ) → AreLinesOf image start before old → PushesTidied image start schedule old new → AreLinesOf image start (before ++ schedule ∷ []) new
pushed_more image start before schedule old new so_far put = record {
  tidied = so_far.tidied ++ (schedule.0, put.choices) ∷ [];
  are = one_more image start before so_far.tidied schedule (schedule.0, put.choices) so_far.are (refl, put.is, tt);
  lines = put.lines ∙ ap (λ t. t ++ (plan_line schedule.0 put.choices ++ codes "\n")) so_far.lines ∙ sym (text_more so_far.tidied (schedule.0, put.choices));
}

pub lines_more : (image : Loaded) (start : State) (plan : List Named) (n : ℕ) (old new : List ℕ) → n < length plan → AreLinesOf image start (take n plan) old → PushesAt image start (slice_get plan n) old new → AreLinesOf image start (take (n + 1) plan) new
lines_more image start plan n old new h so_far put =
    let schedule = slice_index_or plan n ([], []) in
    subst (λ (p : List Named). AreLinesOf image start p new) (sym (take_more plan n ([], []) h))
    (pushed_more image start (take n plan) schedule old new so_far (subst (λ o. PushesAt image start o old new) (slice_get-get_or plan n ([], []) h) put))

pub done_at : {X : Type 0} (found : Result State Fault) (wanted : State → X → Type 0) (x : X) → IsOk found → ((start : State) → found ≡ Ok start → wanted start x) → TidiesAt found wanted (Ok x)
done_at (Ok start) wanted x there h = h start refl
done_at (Err other) wanted x there h = absurd (let never : false ≡ true = there in cc)

-- where the start is exported there is one
pub there_ok : (place : Option Place) → IsSome place → IsOk (begun_at place)
there_ok None h = absurd (let never : false ≡ true = h in cc)
there_ok (Some place) h = refl
