use Rattle.std.proofs.Common.{◌≡◌, ℕ, List, [], ◌∷◌, ◌++◌, refl, sym, ap, ◌∙◌, append_assoc}
use Rattle.bx_board.specs.declared.reports.Scheduled.{Scheduled}
use Rattle.bx_board.specs.Texts.{schedule_lines, report_lines}
use Rattle.bx_board.proofs.laws.every_schedule_is_reported.Goals as goal

reported : (texts : List (List ℕ)) (first more : List Scheduled) → report_lines texts (first ++ more) ≡ report_lines texts first ++ report_lines texts more
reported texts [] more = refl
reported texts (one ∷ first) more = ap (λ rest. schedule_lines texts one ++ rest) (reported texts first more) ∙ sym (append_assoc (schedule_lines texts one) (report_lines texts first) (report_lines texts more))

pub returns : goal.returns
returns c = reported
