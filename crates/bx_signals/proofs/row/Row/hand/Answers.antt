use Rattle.std.proofs.Common.{ap, refl}
use Rattle.bx_signals.specs.Waiting.{first}
use Rattle.bx_signals.specs.Handing.{message_of}
use Rattle.bx_signals.proofs.Lines.{queue_missed}
use Rattle.bx_signals.proofs.Handing.{hands_none}
use Rattle.bx_signals.proofs.row.Row.hand.Goals as goal

pub returns-in-Err-clause-handed : goal.returns-in-Err-clause-handed
returns-in-Err-clause-handed c =
    let gap = rw (c.deref.ensures.value, c.self.view_is) at c.in-Err.ensures.missed in
    hands_none _ _ _ _ (ap (λ ss. message_of (first ss)) (queue_missed c.args.self.now c.args.to c.in-Err.field-0 gap)) (λ k. refl)
