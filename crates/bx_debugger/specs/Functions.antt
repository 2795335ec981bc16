-- `list M:F/A`: the items of a function, labels and lines among them.
use Rattle.std.specs.Prelude.{ℕ, zero, suc, ◌+◌, ◌-◌, List, [], ◌++◌, Some, codes}
use Rattle.bx_load.specs.Image.{placed}
use Rattle.bx_debugger.specs.Program.{Program}
use Rattle.bx_debugger.specs.Words.{here_words}

-- so many items of a module from this number on, a line each: `race:9 race.erl:6 ITEM`
abbrev pub item_lines : Program → ℕ → ℕ → ℕ → List ℕ
item_lines program m n zero = []
item_lines program m n (suc k) = here_words program (Some (placed m n)) ++ codes "\n" ++ item_lines program m (n + 1) k

abbrev pub list_answer : Program → ℕ → ℕ → ℕ → List ℕ
list_answer program m first past = item_lines program m first (past - first) ++ codes "end\n"
