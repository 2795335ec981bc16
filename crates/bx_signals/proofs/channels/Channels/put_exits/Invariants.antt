use Rattle.std.proofs.Common.{◌≡◌, take}
use Rattle.bx_signals.specs.Channels.{put_to_all}
use Rattle.bx_signals.specs.declared.signal.Signal.TheVariants.{LinkExit}
use Rattle.bx_signals.proofs.channels.Channels.put_exits.Given as goal

abbrev pub invariant-loop-at : goal.invariant-loop-at
invariant-loop-at l = l.self ≡ put_to_all l.from (take l.at l.links) (LinkExit l.reason) l.fn.self
