use Rattle.std.proofs.Common.{refl}
use Rattle.std.proofs.lemmas.Result.{err_from_is_err_and}
use Rattle.bx_proc.proofs.Writing.{ys_refused_first, ys_done}
use Rattle.bx_proc.proofs.process.Proc.write_ys.Goals as goal

pub returns-in_err-y_cell : goal.returns-in_err-y_cell
returns-in_err-y_cell c =
    let p = err_from_is_err_and c.from_residual.result c.from_residual.ensures.1 in
    rw (p.1, p.2) (ys_refused_first c.args.first c.args.second c.args.value c.args.more c.args.self.now _ c.in_err-y_cell.ensures, refl)

pub returns : goal.returns
returns c =
    ys_done c.args.first c.args.second c.args.value c.args.more _ _ c.args.self.now c.write_y.new.self c.write_y-2.new.self c.write_y-2.result
    c.in_ok-y_cell.ensures c.in_ok-y_cell-2.ensures c.in_ok-write_y.ensures c.write_y-2.ensures
