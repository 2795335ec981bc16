use Rattle.std.proofs.Common.{ap, refl, arith}
use Rattle.bx_signals.specs.Waiting.{first}
use Rattle.bx_signals.specs.Handing.{message_of}
use Rattle.bx_signals.proofs.Maps.{nothing_waits}
use Rattle.bx_signals.proofs.Handing.{hands_none}
use Rattle.bx_signals.proofs.channels.hand_in.Goals as goal

pub returns-then-from-len-clause-handed : goal.returns-then-from-len-clause-handed
returns-then-from-len-clause-handed c = hands_none _ _ _ _ (ap (λ ss. message_of (first ss)) (nothing_waits c.args.rows.now.items c.args.from c.args.to (omega arith))) refl
