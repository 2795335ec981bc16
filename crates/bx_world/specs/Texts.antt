-- The text of a choice and of an outcome, as reports print them. Lines are ended by a line feed.
use Rattle.std.specs.Prelude.{ℕ, ◌+◌, List, [], ◌∷◌, ◌++◌, Option, None, Some, codes, decimal}
use Rattle.bx_terms.specs.Tree.{Tree}
use Rattle.bx_terms.specs.Kinds.{trap_name}
use Rattle.bx_terms.specs.Printed.{printed, printed_pid}
use Rattle.bx_world.specs.declared.choices.Choice.{Choice, TheVariants.Run, TheVariants.Deliver, TheVariants.Expire}
use Rattle.bx_world.specs.declared.outcomes.Outcome.{Outcome}
use Rattle.bx_world.specs.declared.outcomes.Standing.{Standing, TheVariants.Trapped, TheVariants.Quiet, TheVariants.Open}
use Rattle.bx_proc.specs.declared.parts.Status.{Status, TheVariants.Ready, TheVariants.Waiting, TheVariants.Ended}

-- `r` and the pid that runs; `d`, the pid that sent, `>` and the pid that receives; or `e` and the pid whose wait expires
abbrev pub spelling : Choice → List ℕ
spelling (Run p) = codes "r" ++ decimal p
spelling (Deliver p q) = codes "d" ++ decimal p ++ codes ">" ++ decimal q
spelling (Expire p) = codes "e" ++ decimal p

-- choices, each behind a space
abbrev pub spellings : List Choice → List ℕ
spellings [] = []
spellings (choice ∷ more) = codes " " ++ spelling choice ++ spellings more

-- a refused choice goes before all else
abbrev pub state_words : Option Choice → Standing → List ℕ
state_words (Some choice) state = codes "stopped " ++ spelling choice
state_words None (Trapped kind p) = codes "trapped " ++ trap_name kind ++ codes " " ++ printed_pid p
state_words None Quiet = codes "quiet"
state_words None (Open choices) = codes "open" ++ spellings choices

abbrev pub status_words : List (List ℕ) → Status → List ℕ
status_words texts Ready = codes "ready"
status_words texts Waiting = codes "waiting"
status_words texts (Ended reason) = codes "ended " ++ printed texts reason

abbrev pub process_line : List (List ℕ) → ℕ → Status → List ℕ
process_line texts p status = codes "process " ++ printed_pid p ++ codes " " ++ status_words texts status ++ codes "\n"

-- a line for each process, from this pid on
abbrev pub process_lines : List (List ℕ) → ℕ → List Status → List ℕ
process_lines texts p [] = []
process_lines texts p (status ∷ more) = process_line texts p status ++ process_lines texts (p + 1) more

-- a line for each term that was displayed
abbrev pub output_lines : List (List ℕ) → List (ℕ × Tree) → List ℕ
output_lines texts [] = []
output_lines texts (shown ∷ more) = codes "output " ++ printed_pid shown.0 ++ codes " " ++ printed texts shown.1 ++ codes "\n" ++ output_lines texts more

-- how many choices were applied, how the world stands, its processes, its output, and `end`
abbrev pub outcome_lines : List (List ℕ) → ℕ → Option Choice → Outcome → List ℕ
outcome_lines texts count stop end =
    codes "applied " ++ decimal count ++ codes "\nstate " ++ state_words stop end.state ++ codes "\n"
    ++ process_lines texts 0 end.statuses ++ output_lines texts end.output ++ codes "end\n"
