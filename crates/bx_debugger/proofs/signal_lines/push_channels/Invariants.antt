use Rattle.std.proofs.Common.{◌≡◌, ◌++◌, drop, string_bytes}
use Rattle.bx_debugger.specs.Signals.{channel_lines}
use Rattle.bx_debugger.proofs.signal_lines.push_channels.Given as goal

-- what is written and what is left to write make the whole
abbrev pub invariant-loop-pair : goal.invariant-loop-pair
invariant-loop-pair l = string_bytes l.out ++ channel_lines l.atoms l.channels (drop l.pair-index l.pairs) ≡ string_bytes l.fn.out ++ channel_lines l.atoms l.channels l.pairs
