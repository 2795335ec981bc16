use Rattle.std.proofs.Common.{length, replicate, refl, ap, subst, ◌∙◌, arith, length-append}
use Rattle.std.proofs.lemmas.List.{length-replicate}
use Rattle.bx_plan.specs.Planned.{choices_at}
use Rattle.bx_plan.specs.Runs.{NextRun}
use Rattle.bx_board.proofs.Running.{begun_at, few_made, leads_on}
use Rattle.bx_board.proofs.walks.Course.run.Goals as goal

pub loop-run-preserved : goal.loop-run-preserved
loop-run-preserved c =
    let image = c.args.self.now.image.now in
    let at = c.loop-run in
    let run = c.in-Some.run' in
    let left = c.next_run.new.self in
    let next = subst (NextRun at.left left) c.in-Some.is c.next_run.ensures in
    let new = c.advance_many.new.end in
    let most = few_made image run.choice run.times at.end new c.in-Ok.ensures in
    record {
      leads = leads_on image run.choice run.times at.left left at.end new c.in-Ok.ensures next.1 ∙ at.invariant.leads;
      few = omega (arith, most, ap length next.1, length-append (replicate run.times run.choice) left, length-replicate run.times run.choice, at.invariant.few);
    }

pub loop-run-init : goal.loop-run-init
loop-run-init c =
    let s = c.args.self.now in
    let both = begun_at s.image.now s.image.now s.start (choices_at s.plan.now c.args.span.line) c.part-left.result c.args.span.first c.args.span.past c.args.from refl (omega (arith, c.requires.span.some)) c.requires.span.within c.part-left.ensures.few c.part-left.ensures.part c.requires.from in
    record { leads = both.0; few = both.1 }
