use Rattle.bx_world.proofs.Words.{◌≡◌, ◌≢◌, List, ◌<◌, ◌+◌, ◌++◌, ◌∷◌, [], true, false, length, drop, map, sym, ap, subst, ◌∙◌, arith, length-append, Run, Life, life, may_run, choices_from}
use Rattle.bx_world.proofs.Changing.{on_err}
use Rattle.bx_world.proofs.Finding.{one_found, one_passed, one_there}
use Rattle.bx_world.proofs.procs.Procs.push_runs.Goals as goal
use Rattle.bx_world.proofs.procs.Procs.push_runs.Goals.{then-slot_may_run+in_ok-push, else-slot_may_run}

pub loop-pid-preserved : goal.loop-pid-preserved
loop-pid-preserved g c =
    let seen = life g.P.Hold.shown in
    let slots = c.self.inside.slots.items in
    let here : c.loop-pid.pid < length slots = omega arith in
    let all = c.args.choices.now.items ++ choices_from may_run Run 0 (map seen slots) in
    let left = choices_from may_run Run (c.loop-pid.pid + 1) (drop (c.loop-pid.pid + 1) (map seen slots)) in
    elim c.if-slot_may_run.branch [
      | then-slot_may_run+in_ok-push w ↦
          let can : may_run (seen c.index.result.now) ≡ true = sym c.slot_may_run.ensures ∙ w.if-slot_may_run.true in
          let one_more : c.if-slot_may_run.choices.items ≡ c.loop-pid.choices.items ++ Run c.loop-pid.pid ∷ [] = ap (λ v. v.items) w.choices-is ∙ w.in_ok-push.ensures.items in (
            omega (arith, ap length one_more, length-append c.loop-pid.choices.items (Run c.loop-pid.pid ∷ []), c.loop-pid.invariant.0),
            ap (λ found. found ++ left) one_more ∙ one_found may_run Run seen slots c.loop-pid.pid c.index.result.now c.loop-pid.choices.items all here c.index.ensures can c.loop-pid.invariant.1,
          )
      | else-slot_may_run w ↦
          let can : may_run (seen c.index.result.now) ≡ false = sym c.slot_may_run.ensures ∙ w.if-slot_may_run.false in
          let same : c.if-slot_may_run.choices.items ≡ c.loop-pid.choices.items = ap (λ v. v.items) w.choices-is in (
            omega (arith, ap length same, c.loop-pid.invariant.0),
            ap (λ found. found ++ left) same ∙ one_passed may_run Run seen slots c.loop-pid.pid c.index.result.now c.loop-pid.choices.items all here c.index.ensures can c.loop-pid.invariant.1,
          )
    ]

pub returns-in_err-push-clause-err : goal.returns-in_err-push-clause-err
returns-in_err-push-clause-err g c =
    let seen = life g.P.Hold.shown in
    let slots = c.self.inside.slots.items in
    let here : c.loop-pid.pid < length slots = omega arith in
    let can : may_run (seen c.index.result.now) ≡ true = sym c.slot_may_run.ensures ∙ c.if-slot_may_run.true in
    let some : choices_from may_run Run 0 (map seen slots) ≢ [] =
    one_there may_run Run seen slots c.loop-pid.pid c.index.result.now c.args.choices.now.items c.loop-pid.choices.items (choices_from may_run Run 0 (map seen slots)) here c.index.ensures can c.loop-pid.invariant.0 c.loop-pid.invariant.1 in
    on_err c.from_residual.result (choices_from may_run Run 0 c.args.self.now ≢ []) (subst (λ (lives : List Life). choices_from may_run Run 0 lives ≢ []) c.self.view_is some)
