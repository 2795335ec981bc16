use Rattle.bx_world.proofs.Words.{◌≡◌, ◌++◌, drop, string_bytes}
use Rattle.bx_world.specs.Texts.{process_lines}
use Rattle.bx_world.proofs.texts.push_processes.Given as goal

-- what is written and what is left to write make the whole
abbrev pub invariant-loop-pid : goal.invariant-loop-pid
invariant-loop-pid l = string_bytes l.out ++ process_lines l.atoms l.pid (drop l.pid l.statuses) ≡ string_bytes l.fn.out ++ process_lines l.atoms 0 l.statuses
