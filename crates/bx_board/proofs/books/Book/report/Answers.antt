use Rattle.std.proofs.Common.{◌≡◌, subst, ◌∙◌}
use Rattle.std.specs.Prelude.{IfOk}
use Rattle.bx_plan.specs.Planned.{schedules}
use Rattle.bx_board.specs.Kept.{Kept}
use Rattle.bx_board.specs.Reported.{report_of}
use Rattle.bx_board.proofs.Found.{made_anew}
use Rattle.bx_board.proofs.books.Book.report.Goals as goal

pub returns-clause-ok : goal.returns-clause-ok
returns-clause-ok c =
    let i = c.self.inside in
    subst (λ (b : Kept). IfOk c.report_alone.result (λ report. report ≡ report_of b.job)) (c.self.view_is ∙ c.report_told.ensures.same)
    (made_anew i.image.now i.start (schedules i.plan.now) _ c.report_alone.result c.report_alone.ensures)
