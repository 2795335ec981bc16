use Rattle.std.proofs.Common.{sym, ap, refl, arith}
use Rattle.bx_signals.specs.Waiting.{first, rest}
use Rattle.bx_signals.proofs.Maps.{nothing_waits, nothing_changed}
use Rattle.bx_signals.proofs.channels.take_in.Goals as goal

pub returns-then-from-len-clause-given : goal.returns-then-from-len-clause-given
returns-then-from-len-clause-given c = sym (ap first (nothing_waits c.args.rows.now.items c.args.from c.args.to (omega arith)))

pub returns-then-from-len-clause-left : goal.returns-then-from-len-clause-left
returns-then-from-len-clause-left c = nothing_changed c.args.rows.now.items c.args.from c.args.to rest (omega arith) refl
