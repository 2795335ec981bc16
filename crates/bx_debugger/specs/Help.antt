-- `help`: the commands, a line each.
use Rattle.std.specs.Prelude.{ℕ, List, ◌++◌, codes}
use Rattle.bx_debugger.specs.declared.help.TheConstants.{COMMANDS}

abbrev pub help_answer : List ℕ
help_answer = COMMANDS.now ++ codes "\nend\n"
