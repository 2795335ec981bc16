use Rattle.std.proofs.Common.{◌≡◌, ◌++◌}
use Rattle.bx_events.specs.Pairing.{numbered}
use Rattle.bx_events.proofs.ledgers.push_numbered.Given as goal

-- what is left completes those that are numbered
abbrev pub invariant-loop-signal : goal.invariant-loop-signal
invariant-loop-signal l = l.puts.items ++ numbered l.to l.number l.signal-iterator.rest.items ≡ l.fn.puts.items ++ numbered l.to l.before l.fn.signals.items
