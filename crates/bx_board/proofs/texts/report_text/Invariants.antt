use Rattle.std.proofs.Common.{◌≡◌, ◌++◌, drop, string_bytes}
use Rattle.bx_board.specs.Texts.{report_lines}
use Rattle.bx_board.proofs.texts.report_text.Given as goal

-- what is written and what is left to write make the whole
abbrev pub invariant-loop-schedule : goal.invariant-loop-schedule
invariant-loop-schedule l = string_bytes l.out ++ report_lines l.atoms (drop l.schedule-index l.schedule-items) ≡ report_lines l.atoms l.report
