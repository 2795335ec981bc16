use Rattle.std.proofs.Common.{ap, ◌∙◌, ◌++◌, ◌∷◌, []}
use Rattle.bx_plan.specs.Planned.{schedules}
use Rattle.bx_board.proofs.Found.{told_next}
use Rattle.bx_board.proofs.walks.Course.report.Goals as goal

pub loop-number-preserved : goal.loop-number-preserved
loop-number-preserved c =
    let s = c.args.self.now in
    record {
      told = c.one_of.ensures.told;
      report = c.in-Ok.ensures.ok ∙ ap (λ rows. rows ++ c.in_ok-one.one ∷ []) c.loop-number.invariant.report
          ∙ told_next s.image.now s.start (schedules s.plan.now) c.loop-number.number c.in_ok-one.one c.in_ok-one.ensures.one;
    }
