use Rattle.std.proofs.Common.{sym, ◌∙◌}
use Rattle.std.proofs.lemmas.Result.{err_from_is_err_and}
use Rattle.bx_asm.specs.Instructed.{registers_of}
use Rattle.bx_proc.proofs.Registers.{there_next, there_stop}
use Rattle.bx_proc.proofs.process.Proc.find_yregs.Goals as goal

pub returns-in_err-y_cell : goal.returns-in_err-y_cell
returns-in_err-y_cell c =
    let p = err_from_is_err_and c.from_residual.result c.from_residual.ensures.1 in
    rw (p.1, p.2) (c.loop-at.invariant ∙ there_stop (registers_of c.args.registers) c.loop-at.at c.in-Some.number c.args.self.now _ (sym c.get.ensures ∙ c.in-Some.is) c.in_err-y_cell.ensures)

pub loop-at-preserved : goal.loop-at-preserved
loop-at-preserved c = c.loop-at.invariant ∙ there_next (registers_of c.args.registers) c.loop-at.at c.in-Some.number c.args.self.now _ (sym c.get.ensures ∙ c.in-Some.is) c.in_ok-y_cell.ensures
