use Rattle.bx_world.proofs.Words.{◌≡◌, ◌++◌, drop, string_bytes}
use Rattle.bx_world.specs.Texts.{output_lines}
use Rattle.bx_world.proofs.texts.push_output.Given as goal

-- what is written and what is left to write make the whole
abbrev pub invariant-loop-pid : goal.invariant-loop-pid
invariant-loop-pid l = string_bytes l.out ++ output_lines l.atoms (drop l.pid-index l.output) ≡ string_bytes l.fn.out ++ output_lines l.atoms l.output
