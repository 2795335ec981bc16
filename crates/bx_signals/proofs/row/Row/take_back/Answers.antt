use Rattle.std.proofs.Common.{refl}
use Rattle.bx_signals.specs.Waiting.{front}
use Rattle.bx_signals.proofs.Lines.{unchanged}
use Rattle.bx_signals.proofs.row.Row.take_back.Goals as goal

pub returns-in-Err-clause-left : goal.returns-in-Err-clause-left
returns-in-Err-clause-left c = unchanged c.args.self.now c.args.to c.in-Err.field-0 front (rw (c.deref.ensures.value, c.self.view_is) at c.in-Err.ensures.missed) refl
