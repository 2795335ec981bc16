use Rattle.std.proofs.Common.{◌≡◌, ◌+◌, ◌++◌, drop, length, string_bytes, take}
use Rattle.bx_debug.specs.Leading.{led}
use Rattle.bx_debug.specs.Sessions.{behind}
use Rattle.bx_debugger.specs.Trace.{trace_lines}
use Rattle.bx_debugger.proofs.traces.push_trace.Given as goal

-- what is written and what is left to write make the whole
abbrev pub invariant-loop-run : goal.invariant-loop-run
invariant-loop-run l = record {
  count : l.made + length l.left ≡ l.session.at;
  written : string_bytes l.out ++ trace_lines l.program (l.made + 1) l.world l.left
      ≡ string_bytes l.fn.out ++ trace_lines l.program (l.first + 1) (led l.session.image (take l.first l.session.choices) l.session.start) (drop l.first (behind l.session));
}

-- the choices that are left
abbrev pub decreases-loop-run : goal.decreases-loop-run
decreases-loop-run l = length l.left
