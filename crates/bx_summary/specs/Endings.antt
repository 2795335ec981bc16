-- How a schedule ended: the lines of its report from `state` to `end`, without the choices that are open.
use Rattle.std.specs.Prelude.{ℕ, Bool, true, false, List, ◌++◌, Option, Some, None, codes}
use Rattle.bx_board.specs.declared.reports.Scheduled.{Scheduled}
use Rattle.bx_world.specs.Texts.{output_lines, process_lines, state_words}
use Rattle.bx_world.specs.declared.choices.Choice.{Choice}
use Rattle.bx_world.specs.declared.outcomes.Standing.{Standing, TheVariants.Trapped, TheVariants.Quiet, TheVariants.Open}

-- choices are open, and none was refused
abbrev pub is_open : Option Choice → Standing → Bool
is_open (Some choice) state = false
is_open None (Trapped kind p) = false
is_open None Quiet = false
is_open None (Open choices) = true

-- as in a report, but without the choices that are open
abbrev pub ending_words : Option Choice → Standing → List ℕ
ending_words (Some choice) state = state_words (Some choice) state
ending_words None (Trapped kind p) = state_words None (Trapped kind p)
ending_words None Quiet = state_words None Quiet
ending_words None (Open choices) = codes "open"

abbrev pub ending_lines : List (List ℕ) → Scheduled → List ℕ
ending_lines texts one =
    codes "state " ++ ending_words one.refused one.outcome.state ++ codes "\n"
    ++ process_lines texts 0 one.outcome.statuses ++ output_lines texts one.outcome.output ++ codes "end\n"
