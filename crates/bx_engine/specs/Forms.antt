-- The forms in which what comes of a plan's schedules is written.
use Rattle.std.specs.Prelude.{ℕ, List}
use Rattle.bx_board.specs.Texts.{report_lines}
use Rattle.bx_board.specs.declared.reports.Scheduled.{Scheduled}
use Rattle.bx_summary.specs.Texts.{summary_lines}
use Rattle.bx_engine.specs.declared.forms.Form.{Form, TheVariants.Report, TheVariants.Summary}

-- the report of each schedule; or each distinct outcome once, with how many schedules have it
abbrev pub text_as : Form → List (List ℕ) → List Scheduled → List ℕ
text_as Report texts schedules = report_lines texts schedules
text_as Summary texts schedules = summary_lines texts schedules
