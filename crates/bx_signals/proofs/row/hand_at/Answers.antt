use Rattle.std.proofs.Common.{refl, sym, ap}
use Rattle.bx_signals.specs.Waiting.{first, rest}
use Rattle.bx_signals.specs.Handing.{message_of}
use Rattle.bx_signals.proofs.Lines.{set_by, set_same, queue_is}
use Rattle.bx_signals.proofs.Handing.{hands_in}
use Rattle.bx_signals.proofs.row.hand_at.Goals as goal

pub returns-clause-handed : goal.returns-clause-handed
returns-clause-handed c =
    let queue = queue_is c.args.lines.now.items c.args.to c.args.at c.index_mut.result.now c.requires.rising c.requires.place c.index_mut.ensures.value in
    hands_in _ _ _ _ _ _ _ _ c.hand.result (ap (λ ss. message_of (first ss)) (sym queue))
    (λ h. set_by c.args.lines.now.items c.args.to c.args.at c.index_mut.result.now (c.index_mut.result.now.0, c.hand.new.self) rest c.requires.rising c.requires.place c.index_mut.ensures.value refl h)
    (λ h. set_same c.args.lines.now.items c.args.to c.args.at c.index_mut.result.now (c.index_mut.result.now.0, c.hand.new.self) c.requires.rising c.requires.place c.index_mut.ensures.value refl h) c.hand.ensures
