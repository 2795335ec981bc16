use Rattle.std.proofs.Common.{Ok, ap}
use Rattle.std.proofs.lemmas.Result.{err_from_is_err_and}
use Rattle.bx_proc.proofs.Told.{answer_ran, answer_lacks}
use Rattle.bx_proc.proofs.process.Proc.answer.Goals as goal

pub returns-in-Ok : goal.returns-in-Ok
returns-in-Ok c = ap Ok (answer_ran c.args.image.now c.args.answer.now c.args.self.now c.resume.new.self c.in-Ok.ensures)

pub returns-in_err-tell-in-Err : goal.returns-in_err-tell-in-Err
returns-in_err-tell-in-Err c =
    let p = err_from_is_err_and c.from_residual.result c.from_residual.ensures.1 in
    rw (p.1, p.2) (answer_lacks c.args.image.now c.args.answer.now c.args.self.now c.resume.new.self c.tell.new.self c.in-Err.stop c.in_err-tell-in-Err.field-0.0 c.in-Err.ensures c.in_err-tell-in-Err.ensures)
