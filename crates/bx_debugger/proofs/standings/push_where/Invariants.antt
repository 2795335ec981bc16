use Rattle.std.proofs.Common.{◌≡◌, ◌++◌, drop, string_bytes}
use Rattle.bx_debugger.specs.Where.{life_lines}
use Rattle.bx_debugger.proofs.standings.push_where.Given as goal

-- what is written and what is left to write make the whole
abbrev pub invariant-loop-pid : goal.invariant-loop-pid
invariant-loop-pid l = string_bytes l.out ++ life_lines l.program l.pid (drop l.pid l.world.processes) ≡ string_bytes l.fn.out ++ life_lines l.program 0 l.world.processes
