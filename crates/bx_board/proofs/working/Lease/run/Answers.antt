use Rattle.std.proofs.Common.{◌≡◌, length, replicate, sym, ap, subst, ◌∙◌, arith, length-append}
use Rattle.std.proofs.lemmas.List.{length-replicate}
use Rattle.bx_terms.specs.declared.faults.Fault.{Fault}
use Rattle.bx_plan.specs.Planned.{choices_at}
use Rattle.bx_plan.specs.Runs.{NextRun}
use Rattle.bx_board.specs.Jobs.{Work, end_of}
use Rattle.bx_board.proofs.Running.{begun_at, few_made, given_is, leads_on}
use Rattle.bx_board.proofs.working.Lease.run.Goals as goal

pub loop-run-preserved : goal.loop-run-preserved
loop-run-preserved c =
    let image = c.args.code.now in
    let at = c.loop-run in
    let run = c.in-Some.run' in
    let left = c.next_run.new.self in
    let next = subst (NextRun at.left left) c.in-Some.is c.next_run.ensures in
    let new = c.advance_many.new.end in
    let most = few_made image run.choice run.times at.end new c.in_ok-advance_many.ensures in
    record {
      leads = leads_on image run.choice run.times at.left left at.end new c.in_ok-advance_many.ensures next.1 ∙ at.invariant.leads;
      few = omega (arith, most, ap length next.1, length-append (replicate run.times run.choice) left, length-replicate run.times run.choice, at.invariant.few);
    }

pub loop-run-init : goal.loop-run-init
loop-run-init c =
    let i = c.self.inside in
    let is = c.self.invariant.0 in
    let image : i.image.now ≡ c.args.code.now = ap (λ (w : Work). w.image) c.self.view_is ∙ sym c.requires in
    let branched = given_is {E = Fault} _ c.in_ok-end.end c.in_ok-end.ensures in
    let from = sym branched ∙ c.see.ensures ∙ c.self.invariant.1 in
    let both =
    begun_at i.image.now c.args.code.now i.start (choices_at i.plan.now i.span.line) c.part-left.result i.span.first i.span.past c.in_ok-end.end image (omega (arith, is.some)) is.within c.part-left.ensures.few c.part-left.ensures.part from in
    record { leads = both.0 ∙ ap end_of c.self.view_is; few = both.1 }
