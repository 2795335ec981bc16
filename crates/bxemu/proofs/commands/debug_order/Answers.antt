use Rattle.std.proofs.Common.{codes, refl}
use Rattle.clap.proofs.TakesLemmas.{passed_up}
use Rattle.bxemu.proofs.CommandLemmas.{differs}
use Rattle.bxemu.proofs.commands.debug_order.Goals as goal

pub returns-in_err-start-clause-err : goal.returns-in_err-start-clause-err
returns-in_err-start-clause-err c =
    passed_up c.from_residual.result c.in_err-start.field-0.0 _ c.from_residual.ensures.1
    (c.in_err-start.ensures.err (codes "debug") (differs (codes "debug") (codes "dis") refl))
