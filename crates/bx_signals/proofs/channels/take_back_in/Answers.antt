use Rattle.std.proofs.Common.{refl, arith}
use Rattle.bx_signals.specs.Waiting.{front}
use Rattle.bx_signals.proofs.Maps.{nothing_changed}
use Rattle.bx_signals.proofs.channels.take_back_in.Goals as goal

pub returns-else-from-len-clause-left : goal.returns-else-from-len-clause-left
returns-else-from-len-clause-left c = nothing_changed c.args.rows.now.items c.args.from c.args.to front (omega arith) refl
