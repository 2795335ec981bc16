-- `where`: how each process stands, at which address, and which item is there.
use Rattle.std.specs.Prelude.{ℕ, ◌+◌, List, [], ◌∷◌, ◌++◌, Option, codes}
use Rattle.bx_terms.specs.Printed.{printed, printed_pid}
use Rattle.bx_terms.specs.declared.places.Place.{Place}
use Rattle.bx_proc.specs.declared.parts.Status.{Status, TheVariants.Ready, TheVariants.Waiting, TheVariants.Ended}
use Rattle.bx_world.specs.World.{Life, Live, Exited}
use Rattle.bx_debugger.specs.Program.{Program}
use Rattle.bx_debugger.specs.Words.{here_words}

-- a process that has not ended stands at an address, which one lacks whose function is not there
abbrev pub status_words : Program → Option Place → Status → List ℕ
status_words program place Ready = codes "ready " ++ here_words program place
status_words program place Waiting = codes "waiting " ++ here_words program place
status_words program place (Ended reason) = codes "ended " ++ printed program.image.atoms reason

abbrev pub life_words : Program → Life → List ℕ
life_words program (Live process) = status_words program process.place process.status
life_words program (Exited reason) = codes "ended " ++ printed program.image.atoms reason

-- `<0.0.0> ready race:9 race.erl:6 ITEM`
abbrev pub life_line : Program → ℕ → Life → List ℕ
life_line program p life = printed_pid p ++ codes " " ++ life_words program life ++ codes "\n"

-- a line for each process, from this pid on
abbrev pub life_lines : Program → ℕ → List Life → List ℕ
life_lines program p [] = []
life_lines program p (life ∷ more) = life_line program p life ++ life_lines program (p + 1) more

abbrev pub where_answer : Program → List Life → List ℕ
where_answer program lives = life_lines program 0 lives ++ codes "end\n"
