use Rattle.std.proofs.Common.{◌≡◌, ◌++◌, drop, string_bytes}
use Rattle.bx_debugger.specs.Signals.{signal_lines}
use Rattle.bx_debugger.proofs.signal_lines.push_signal_lines.Given as goal

-- what is written and what is left to write make the whole
abbrev pub invariant-loop-signal : goal.invariant-loop-signal
invariant-loop-signal l = string_bytes l.out ++ signal_lines l.atoms l.pair (drop l.signal-index l.signals) ≡ string_bytes l.fn.out ++ signal_lines l.atoms l.pair l.signals
