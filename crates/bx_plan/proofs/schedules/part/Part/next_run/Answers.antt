use Rattle.bx_plan.proofs.Words.{◌≡◌, ◌+◌, ◌++◌, List, [], ◌∷◌, None, replicate, refl, sym, ap, ◌∙◌, arith, slice_get, both_ways, Choice, common_steps}
use Rattle.bx_plan.proofs.Runs.{run_longer, run_taken}
use Rattle.bx_plan.proofs.schedules.part.Part.next_run.Goals.{then-begins_with, else-begins_with}
use Rattle.bx_plan.proofs.schedules.part.Part.next_run.Goals as goal

none_left : (cs : List Choice) → slice_get cs 0 ≡ None → cs ≡ []
none_left [] e = refl
none_left (c ∷ cs) e = cc

pub returns-in_err-choice : goal.returns-in_err-choice
returns-in_err-choice c = grind (arith, common_steps, none_left)

pub returns : goal.returns
returns c =
    let choice = c.in_ok-choice.choice in
    let old = c.args.self.now in
    let left = c.if-begins_with.self in
    let on = c.skip.ensures in
    elim c.if-begins_with.branch [
      | then-begins_with w ↦
          let more = w.skip_all.ensures in
          let whole = run_longer choice on.0 more.0 old _ _ on.2 more.1 ∙ ap (λ (cs : List Choice). replicate (on.0 + more.0) choice ++ cs) (sym w.self-is) in
          let both = run_taken choice old left (on.0 + more.0) c.len-count.result c.len.result (omega (arith, on.1)) whole c.len-count.ensures c.len.ensures in
          (both.0, both.1, λ e. more.2 (sym (ap (λ (cs : List Choice). slice_get cs 0) w.self-is) ∙ e))
      | else-begins_with w ↦
          let whole = on.2 ∙ ap (λ (cs : List Choice). replicate on.0 choice ++ cs) (sym w.self-is) in
          let both = run_taken choice old left on.0 c.len-count.result c.len.result on.1 whole c.len-count.ensures c.len.ensures in
          (both.0, both.1, λ e. both_ways _ w.if-begins_with.false (c.begins_with.ensures.1 (sym (ap (λ (cs : List Choice). slice_get cs 0) w.self-is) ∙ e)))
    ]
