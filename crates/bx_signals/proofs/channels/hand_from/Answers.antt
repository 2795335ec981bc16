use Rattle.std.proofs.Common.{sym, ap}
use Rattle.bx_signals.specs.Waiting.{first, rest}
use Rattle.bx_signals.specs.Handing.{message_of}
use Rattle.bx_signals.proofs.Maps.{set_row_by, set_same_row, row_waits}
use Rattle.bx_signals.proofs.Handing.{hands_in}
use Rattle.bx_signals.proofs.channels.hand_from.Goals as goal

pub returns-clause-handed : goal.returns-clause-handed
returns-clause-handed c =
    let waits = row_waits c.args.rows.now.items c.args.from c.args.to c.index_mut.result.now c.requires.from c.index_mut.ensures.value in
    hands_in _ _ _ _ _ _ _ _ c.hand.result (ap (λ ss. message_of (first ss)) (sym waits))
    (λ h. set_row_by c.args.rows.now.items c.args.from c.args.to c.index_mut.result.now c.hand.new.self rest c.requires.from c.index_mut.ensures.value h)
    (λ h. set_same_row c.args.rows.now.items c.args.from c.index_mut.result.now c.hand.new.self c.requires.from c.index_mut.ensures.value h) c.hand.ensures.handed
