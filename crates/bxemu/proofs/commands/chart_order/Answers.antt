use Rattle.std.proofs.Common.{codes, refl, ◌∙◌, sym}
use Rattle.clap.specs.Words.{found_of}
use Rattle.clap.proofs.WalkLemmas.{first_value-rows}
use Rattle.clap.proofs.TakesLemmas.{passed_up}
use Rattle.bxemu.proofs.CommandLemmas.{differs}
use Rattle.bxemu.proofs.commands.chart_order.Goals as goal

pub returns-in_err-plan-clause-err : goal.returns-in_err-plan-clause-err
returns-in_err-plan-clause-err c =
    passed_up c.from_residual.result c.in_err-plan.field-0.0 _ c.from_residual.ensures.1
    (c.in_err-plan.ensures.err (codes "chart") (differs (codes "chart") (codes "dis") refl) (differs (codes "chart") (codes "debug") refl))

pub returns-in_err-start-clause-err : goal.returns-in_err-start-clause-err
returns-in_err-start-clause-err c =
    passed_up c.from_residual-in_err-start.result c.in_err-start.field-0.0 _ c.from_residual-in_err-start.ensures.1
    (c.in_err-start.ensures.err (codes "chart") (differs (codes "chart") (codes "dis") refl))

pub returns-clause-ok : goal.returns-clause-ok
returns-clause-ok c = (
  refl,
  c.in_ok-start.ensures.ok.0,
  c.in_ok-plan.ensures.ok,
  sym (first_value-rows (found_of c.args.values.now) (codes "schedule")) ∙ sym c.get_str-schedule.ensures,
  c.in_ok-start.ensures.ok.1,
)
