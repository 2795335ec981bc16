use Rattle.std.proofs.Common.{sym}
use Rattle.bx_signals.proofs.Lines.{queue_is, queue_missed}
use Rattle.bx_signals.proofs.row.Row.queue.Goals as goal

pub returns-in-Ok : goal.returns-in-Ok
returns-in-Ok c =
    let place = rw c.deref.ensures.value at c.in-Ok.ensures.found in
    rw (← c.self.view_is) (sym (queue_is c.self.inside.lines.items c.args.to c.in-Ok.at c.index.result.now c.self.invariant place c.index.ensures))

pub returns-in-Err : goal.returns-in-Err
returns-in-Err c = sym (queue_missed c.args.self.now c.args.to c.in-Err.field-0 (rw (c.deref.ensures.value, c.self.view_is) at c.in-Err.ensures.missed))
