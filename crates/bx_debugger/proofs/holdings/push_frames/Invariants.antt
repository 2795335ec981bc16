use Rattle.std.proofs.Common.{◌≡◌, ◌++◌, string_bytes, length}
use Rattle.bx_debugger.specs.Look.{frame_lines}
use Rattle.bx_debugger.proofs.holdings.push_frames.Given as goal

-- what is written and what is left to write make the whole
abbrev pub invariant-loop-saved : goal.invariant-loop-saved
invariant-loop-saved l = string_bytes l.out ++ frame_lines l.program l.left ≡ string_bytes l.fn.out ++ frame_lines l.program l.stack

abbrev pub decreases-loop-saved : goal.decreases-loop-saved
decreases-loop-saved l = length l.left
