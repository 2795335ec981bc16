use Rattle.std.proofs.Common.{sym, ap, refl}
use Rattle.bx_signals.specs.Waiting.{first, rest}
use Rattle.bx_signals.proofs.Lines.{queue_missed, unchanged}
use Rattle.bx_signals.proofs.row.Row.take.Goals as goal

pub returns-in-Err-clause-given : goal.returns-in-Err-clause-given
returns-in-Err-clause-given c = sym (ap first (queue_missed c.args.self.now c.args.to c.in-Err.field-0 (rw (c.deref.ensures.value, c.self.view_is) at c.in-Err.ensures.missed)))

pub returns-in-Err-clause-left : goal.returns-in-Err-clause-left
returns-in-Err-clause-left c = unchanged c.args.self.now c.args.to c.in-Err.field-0 rest (rw (c.deref.ensures.value, c.self.view_is) at c.in-Err.ensures.missed) refl
