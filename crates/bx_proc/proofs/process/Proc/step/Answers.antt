use Rattle.std.proofs.Common.{Ok, ap}
use Rattle.std.proofs.lemmas.Result.{err_from_is_err_and}
use Rattle.bx_proc.proofs.Told.{step_ran, step_lacks}
use Rattle.bx_proc.proofs.process.Proc.step.Goals as goal

pub returns-in-Ok : goal.returns-in-Ok
returns-in-Ok c = ap Ok (step_ran c.args.image.now c.args.pid c.args.self.now c.run.new.self c.in-Ok.ensures)

pub returns-in_err-tell-in-Err : goal.returns-in_err-tell-in-Err
returns-in_err-tell-in-Err c =
    let p = err_from_is_err_and c.from_residual.result c.from_residual.ensures.1 in
    rw (p.1, p.2) (step_lacks c.args.image.now c.args.pid c.args.self.now c.run.new.self c.tell.new.self c.in-Err.stop c.in_err-tell-in-Err.field-0.0 c.in-Err.ensures c.in_err-tell-in-Err.ensures)
