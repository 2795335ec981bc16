-- `open`: the choices that are enabled, each with what it would meet.
use Rattle.std.specs.Prelude.{ℕ, List, [], ◌∷◌, ◌++◌, codes}
use Rattle.bx_world.specs.declared.choices.Choice.{Choice}
use Rattle.bx_world.specs.Enabled.{enabled}
use Rattle.bx_world.specs.Texts.{spelling}
use Rattle.bx_world.specs.World.{State}
use Rattle.bx_debugger.specs.Program.{Program}
use Rattle.bx_debugger.specs.Trace.{met_words}

-- a line for each: `r1 race:31 race.erl:11 ITEM`
abbrev pub open_lines : Program → State → List Choice → List ℕ
open_lines program w [] = []
open_lines program w (choice ∷ more) =
    spelling choice ++ codes " " ++ met_words program choice w ++ codes "\n" ++ open_lines program w more

abbrev pub open_answer : Program → State → List ℕ
open_answer program w = open_lines program w (enabled w) ++ codes "end\n"
