use Rattle.std.proofs.Common.{◌≡◌, ◌++◌, drop, string_bytes}
use Rattle.bx_debugger.specs.Look.{link_lines}
use Rattle.bx_debugger.proofs.holdings.push_links.Given as goal

-- what is written and what is left to write make the whole
abbrev pub invariant-loop-pid : goal.invariant-loop-pid
invariant-loop-pid l = string_bytes l.out ++ link_lines (drop l.pid-index l.pids) ≡ string_bytes l.fn.out ++ link_lines l.pids
