use Rattle.std.proofs.Common.{◌∙◌, Ok, Result, List, ap, sym}
use Rattle.bx_terms.specs.Outcomes.{◌>>=◌}
use Rattle.bx_terms.specs.declared.faults.Fault.{Fault}
use Rattle.bx_board.specs.Texts.{report_lines}
use Rattle.bx_board.specs.declared.reports.Scheduled.{Scheduled}
use Rattle.bx_engine.proofs.joints.report_over.Goals as goal

pub returns : goal.returns
returns c =
    ap (λ (r : Result (List Scheduled) Fault). r >>= λ rows. Ok (report_lines c.args.code.now.atoms rows)) c.in-Ok.ensures
    ∙ ap (λ atoms. Ok (report_lines atoms c.in-Ok.rows)) (sym c.atoms.ensures) ∙ c.in-Ok-report_text.ensures
