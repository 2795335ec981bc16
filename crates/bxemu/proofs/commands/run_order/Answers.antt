use Rattle.std.proofs.Common.{codes, refl}
use Rattle.clap.proofs.TakesLemmas.{passed_up}
use Rattle.bxemu.proofs.CommandLemmas.{differs}
use Rattle.bxemu.proofs.commands.run_order.Goals as goal

pub returns-in_err-plan-clause-err : goal.returns-in_err-plan-clause-err
returns-in_err-plan-clause-err c =
    passed_up c.from_residual.result c.in_err-plan.field-0.0 _ c.from_residual.ensures.1
    (c.in_err-plan.ensures.err (codes "run") (differs (codes "run") (codes "dis") refl) (differs (codes "run") (codes "debug") refl))

pub returns-in_err-start-clause-err : goal.returns-in_err-start-clause-err
returns-in_err-start-clause-err c =
    passed_up c.from_residual-in_err-start.result c.in_err-start.field-0.0 _ c.from_residual-in_err-start.ensures.1
    (c.in_err-start.ensures.err (codes "run") (differs (codes "run") (codes "dis") refl))
