use Rattle.std.proofs.Common.{length, replicate, ap, subst, arith, length-append}
use Rattle.std.proofs.lemmas.List.{length-replicate}
use Rattle.bx_world.proofs.Many.{few_made}
use Rattle.bx_plan.specs.Runs.{NextRun}
use Rattle.bx_replay.proofs.Stretches.{run_made, run_lacks, none_made, on_err}
use Rattle.bx_replay.proofs.runs.advance_all.Goals as goal

pub loop-run-init : goal.loop-run-init
loop-run-init c = record { made = none_made c.args.image.now c.args.part c.args.end.now; few = omega arith }

pub loop-run-preserved : goal.loop-run-preserved
loop-run-preserved c =
    let image = c.args.image.now in
    let at = c.loop-run in
    let run = c.in-Some.run' in
    let left = c.next_run.new.self in
    let next = subst (NextRun at.left left) c.in-Some.is c.next_run.ensures in
    let new = c.advance_run.new.end in
    let most = few_made image run.choice run.times at.end new c.in_ok-advance_run.ensures.ok in
    record {
      made = run_made image c.args.part at.left left run.choice run.times c.args.end.now at.end new at.invariant.made next.1 c.in_ok-advance_run.ensures.ok;
      few = omega (arith, most, ap length next.1, length-append (replicate run.times run.choice) left, length-replicate run.times run.choice, at.invariant.few);
    }

pub returns-in_err-advance_run-clause-err : goal.returns-in_err-advance_run-clause-err
returns-in_err-advance_run-clause-err c =
    let at = c.loop-run in
    let run = c.in-Some.run' in
    let left = c.next_run.new.self in
    let next = subst (NextRun at.left left) c.in-Some.is c.next_run.ensures in
    on_err c.from_residual.result (run_lacks c.args.image.now c.args.part at.left left run.choice run.times c.args.end.now at.end c.advance_run.new.end at.invariant.made next.1 c.in_err-advance_run.ensures.err)
