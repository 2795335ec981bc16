use Rattle.std.proofs.Common.{◌≡◌, length, replicate, ap, subst, arith, length-append}
use Rattle.std.proofs.lemmas.List.{length-replicate}
use Rattle.std.proofs.lemmas.Result.{err_from_is_err_and}
use Rattle.bx_plan.specs.Runs.{NextRun}
use Rattle.bx_events.specs.Answers.{telling}
use Rattle.bx_events.specs.Telling.{Telling, all_told}
use Rattle.bx_events.proofs.Going.{few_told, next_told, tells_first, told_further}
use Rattle.bx_events.proofs.tellers.Teller.tell_all.Goals as goal

pub loop-run-preserved : goal.loop-run-preserved
loop-run-preserved c =
    let at = c.loop-run in
    let image = c.args.image.now in
    let run = c.in-Some.run' in
    let left = c.next_run.new.self in
    let next = subst (NextRun at.left left) c.in-Some.is c.next_run.ensures in
    let first = replicate run.times run.choice in
    let all = all_told image c.args.part (telling c.args.self.now) in
    let made = c.in_ok-tell_run.ensures in
    record {
      told = told_further image left (all_told image first (telling at.self)) (telling c.tell_run.new.self) all (next_told image first left at.left (telling at.self) all next.1 at.invariant.told) made.0;
      keeps = made.1;
      few = omega (arith, few_told image first (telling at.self), ap (λ (t : Telling). t.end.applied) made.0, ap length next.1, length-append first left, length-replicate run.times run.choice, at.invariant.few);
    }

pub returns-in_err-tell_run : goal.returns-in_err-tell_run
returns-in_err-tell_run c =
    let p = err_from_is_err_and c.from_residual.result c.from_residual.ensures.1 in
    let at = c.loop-run in
    let image = c.args.image.now in
    let run = c.in-Some.run' in
    let left = c.next_run.new.self in
    let next = subst (NextRun at.left left) c.in-Some.is c.next_run.ensures in
    let first = replicate run.times run.choice in
    let all = all_told image c.args.part (telling c.args.self.now) in
    let mid = all_told image first (telling at.self) in
    rw (p.1, p.2)
    (tells_first image left mid all c.in_err-tell_run.field-0.0 c.tell_run.new.self c.tell_run.new.self c.in_err-tell_run.ensures
    (next_told image first left at.left (telling at.self) all next.1 at.invariant.told))
