use Rattle.std.proofs.Common.{◌≡◌, Option, Some, option_map, slice_get, ap, subst, ◌∙◌, ◌++◌, ◌∷◌, []}
use Rattle.std.specs.Prelude.{IfSome}
use Rattle.bx_plan.specs.Planned.{schedules}
use Rattle.bx_board.specs.declared.reports.Scheduled.{Scheduled}
use Rattle.bx_board.specs.Kept.{Kept}
use Rattle.bx_board.specs.Reported.{told_alone}
use Rattle.bx_board.proofs.Found.{told_next}
use Rattle.bx_board.proofs.books.Book.report_told.Goals as goal

pub loop-number-preserved : goal.loop-number-preserved
loop-number-preserved c =
    let s = c.args.self.now in
    let at = c.loop-number in
    let found = subst (λ (b : Kept). IfSome c.in_ok-one.field-0 (λ one. option_map (told_alone b.job.image b.job.start) (slice_get (schedules b.job.plan) at.number) ≡ Some one)) at.invariant.same c.in_ok-one.ensures.told in
    let told = subst (λ (o : Option Scheduled). IfSome o (λ one. option_map (told_alone s.job.image s.job.start) (slice_get (schedules s.job.plan) at.number) ≡ Some one)) c.in-Some.is found in
    record {
      same = c.scheduled.ensures.same ∙ at.invariant.same;
      report = c.in-Ok.ensures.ok ∙ ap (λ rows. rows ++ c.in-Some.one ∷ []) at.invariant.report ∙ told_next s.job.image s.job.start (schedules s.job.plan) at.number c.in-Some.one told;
    }
