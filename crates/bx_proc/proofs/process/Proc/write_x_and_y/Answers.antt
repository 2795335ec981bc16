use Rattle.std.proofs.Common.{refl, sym}
use Rattle.std.proofs.lemmas.Result.{err_from_is_err_and}
use Rattle.bx_proc.proofs.Writing.{x_and_y_refused, x_and_y_done, ok_same}
use Rattle.bx_proc.proofs.process.Proc.write_x_and_y.Goals as goal

pub returns-in_err-y_cell : goal.returns-in_err-y_cell
returns-in_err-y_cell c =
    let p = err_from_is_err_and c.from_residual.result c.from_residual.ensures.1 in
    rw (p.1, p.2) (x_and_y_refused c.args.x c.args.y c.args.value c.args.more c.args.self.now _ c.in_err-y_cell.ensures, refl)

pub returns : goal.returns
returns c =
    x_and_y_done _ c.args.x c.args.y c.args.value c.args.more _ c.args.self.now c.write.new.self c.write_y.new.self c.write_y.result
    c.in_ok-y_cell.ensures (sym (ok_same _ _ c.in_ok-write.ensures)) c.write_y.ensures
